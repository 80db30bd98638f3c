use Rattle.conv_code.proofs.Runs.{AreSumsOf}
use Rattle.conv_code.proofs.matching.add_run.Given as goal

abbrev pub invariant-loop-i : goal.invariant-loop-i
invariant-loop-i g l = AreSumsOf g.row.N l.first l.values l.i l.sums
