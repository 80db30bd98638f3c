use Rattle.lte_top.proofs.certifying.certify_list.Given as goal

abbrev pub ghost-certify : goal.ghost-certify
ghost-certify g a = g.receiver
