use Rattle.std.proofs.Common.{◌≡◌, map, take}
use Rattle.hit_details.specs.Details.{identified}
use Rattle.hit_details.proofs.identifying.identified_hits.Given as goal

abbrev pub invariant-loop-hit : goal.invariant-loop-hit
invariant-loop-hit l = l.found.items ≡ map (identified l.recording) (take l.hit-index l.hits)
