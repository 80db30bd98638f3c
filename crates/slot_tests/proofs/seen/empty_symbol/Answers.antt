use Rattle.slot_tests.proofs.seen.empty_symbol.Goals as goal

pub returns : goal.returns
returns c = c.level.ensures 33554432 c.seen_of.ensures
