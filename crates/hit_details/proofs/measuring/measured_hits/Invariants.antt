use Rattle.std.proofs.Common.{◌≡◌, map, take}
use Rattle.hit_details.specs.Details.{measured}
use Rattle.hit_details.proofs.measuring.measured_hits.Given as goal

abbrev pub invariant-loop-hit : goal.invariant-loop-hit
invariant-loop-hit l = l.list.items ≡ map measured (take l.hit-index l.hits)
