use Rattle.certificates.proofs.certifying.certify_one.Given as goal

abbrev pub ghost-make : goal.ghost-make
ghost-make g a = g.receiver
