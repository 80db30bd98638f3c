use Rattle.evidence.proofs.measured.measured_and_slot.Given as goal

abbrev pub ghost-numbers_and_slot : goal.ghost-numbers_and_slot
ghost-numbers_and_slot g a = g.receiver
