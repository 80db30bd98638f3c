use Rattle.long_prefix.proofs.made.make.Goals as goal

pub returns-clause-clean : goal.returns-clause-clean
returns-clause-clean c = c.made_is_clean.ensures c.args.n c.of_long_prefix.result c.of_long_prefix.ensures.made
