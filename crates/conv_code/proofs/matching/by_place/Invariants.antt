use Rattle.std.proofs.Common.{◌-◌, ◌≤◌, length}
use Rattle.conv_code.specs.Steps.{HasPlacedSums}
use Rattle.conv_code.proofs.matching.by_place.Given as goal

abbrev pub invariant-loop-at : goal.invariant-loop-at
invariant-loop-at g l = HasPlacedSums g.row.N l.first l.values l.at l.sums × (l.at ≤ length l.values)

abbrev pub decreases-loop-at : goal.decreases-loop-at
decreases-loop-at g l = length l.values - l.at
