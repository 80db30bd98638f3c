use Rattle.std.proofs.Common.{◌≡◌, map, take}
use Rattle.hit_details.specs.Details.{measured_id}
use Rattle.hit_details.proofs.measuring.measured_ids.Given as goal

abbrev pub invariant-loop-hit : goal.invariant-loop-hit
invariant-loop-hit l = l.list.items ≡ map (measured_id l.recording) (take l.hit-index l.hits)
