use Rattle.std.proofs.Common.{◌≡◌, take}
use Rattle.std.specs.List.{filter_map}
use Rattle.accumulated_list.specs.Steps.{cell_found}
use Rattle.accumulated_list.proofs.listing.detected_cells.Given as goal

abbrev pub invariant-loop-k : goal.invariant-loop-k
invariant-loop-k l = l.list.items ≡ filter_map (cell_found l.recording l.halves l.n2) (take l.k l.positions.items)
