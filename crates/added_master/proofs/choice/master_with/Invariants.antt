use Rattle.added_master.specs.Choice.{IsChoice}
use Rattle.added_master.proofs.Choices.{DecodedBefore}
use Rattle.added_master.proofs.choice.master_with.Given as goal

abbrev pub invariant-loop-phase : goal.invariant-loop-phase
invariant-loop-phase l = IsChoice (DecodedBefore l.id l.ports l.frames l.phase) l.best
