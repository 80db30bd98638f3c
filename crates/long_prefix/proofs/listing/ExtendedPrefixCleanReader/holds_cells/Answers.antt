use Rattle.long_prefix.proofs.HeldLong.{holds_cells}
use Rattle.long_prefix.proofs.listing.ExtendedPrefixCleanReader.holds_cells.Goals as goal

pub returns : goal.returns
returns c = holds_cells
