use Rattle.conv_code.proofs.ByIndex.{AreIndexed}
use Rattle.conv_code.proofs.matching.by_index.Given as goal

abbrev pub invariant-loop-p : goal.invariant-loop-p
invariant-loop-p g l = AreIndexed g.row.N l.placed l.p l.sums
