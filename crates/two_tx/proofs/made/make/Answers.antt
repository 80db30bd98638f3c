use Rattle.two_tx.proofs.made.make.Goals as goal

pub returns-clause-clean : goal.returns-clause-clean
returns-clause-clean c = c.made_is_clean.ensures c.args.n c.of_two_ports.result c.of_two_ports.ensures.made
