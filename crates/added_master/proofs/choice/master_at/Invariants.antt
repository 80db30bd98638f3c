use Rattle.added_master.specs.Sums.{added_sums}
use Rattle.added_master.specs.Choice.{IsChoice}
use Rattle.added_master.proofs.Choices.{DecodedBelow}
use Rattle.added_master.proofs.choice.master_at.Given as goal

abbrev pub invariant-loop-upper : goal.invariant-loop-upper
invariant-loop-upper l = IsChoice (DecodedBelow l.ports l.phase (added_sums l.sums) l.upper) l.best
