use Rattle.capture_make.proofs.made.make.Goals as goal

pub returns-clause-clean : goal.returns-clause-clean
returns-clause-clean c = c.made_is_clean.ensures c.args.n c.of_one_port.result c.of_one_port.ensures.made
