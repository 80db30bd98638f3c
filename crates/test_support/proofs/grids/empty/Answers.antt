use Rattle.test_support.proofs.grids.empty.Goals as goal

pub returns : goal.returns
returns c = c.level.ensures 127 c.bounded.ensures
