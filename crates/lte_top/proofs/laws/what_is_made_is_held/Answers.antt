use Rattle.lte_top.proofs.Made.{made_is_held}
use Rattle.lte_top.proofs.laws.what_is_made_is_held.Goals as goal

pub returns : goal.returns
returns c = made_is_held c.numbers_are_clean.ensures
