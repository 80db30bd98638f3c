use Rattle.accumulated_tests.proofs.recordings.empty.Goals as goal

pub returns : goal.returns
returns c = c.level.ensures 127 c.subcarrier_without.ensures
