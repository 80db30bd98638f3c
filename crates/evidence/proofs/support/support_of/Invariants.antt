use Rattle.evidence.proofs.support.support_of.Given as goal

abbrev pub ghost-measured_and_slot : goal.ghost-measured_and_slot
ghost-measured_and_slot g a = g.receiver
