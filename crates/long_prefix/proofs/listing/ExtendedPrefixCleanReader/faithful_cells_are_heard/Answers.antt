use Rattle.long_prefix.proofs.HeldLong.{faithful_cell_is_heard}
use Rattle.long_prefix.proofs.listing.ExtendedPrefixCleanReader.faithful_cells_are_heard.Goals as goal

pub returns : goal.returns
returns c = faithful_cell_is_heard
