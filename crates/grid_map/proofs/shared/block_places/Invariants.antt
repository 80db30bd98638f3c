use Rattle.std.proofs.Common.{◌≡◌, ◌+◌, ◌-◌}
use Rattle.grid_map.specs.Shared.{subframe_symbols, block_rooms, block_places_of}
use Rattle.grid_map.proofs.shared.block_places.Given as goal

-- the count so far and the count in the remaining symbols give the total
abbrev pub invariant-loop-symbol : goal.invariant-loop-symbol
invariant-loop-symbol l = l.places + block_rooms l.carrier l.symbol (subframe_symbols l.carrier - l.symbol) ≡ block_places_of l.carrier l.fn.cfi
