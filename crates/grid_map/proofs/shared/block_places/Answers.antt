use Rattle.std.proofs.Common.{◌≡◌, ℕ, ◌+◌, ◌-◌, ◌*◌, ◌<◌, subst, arith}
use Rattle.lte_types.specs.declared.carrier.Carrier.{Carrier}
use Rattle.grid_map.specs.Shared.{slot_symbols, subframe_symbols, block_room, block_rooms}
use Rattle.grid_map.proofs.Symbols.{rooms_next}
use Rattle.grid_map.proofs.BlockPlaces.{at_most}
use Rattle.grid_map.proofs.shared.block_places.Goals as goal

-- the count over one more symbol
counted : (carrier : Carrier) (symbol slot room places all : ℕ) → slot ≡ slot_symbols carrier → room ≡ block_room carrier symbol → symbol < 2 * slot →
    places + block_rooms carrier symbol (subframe_symbols carrier - symbol) ≡ all → places + room + block_rooms carrier (symbol + 1) (subframe_symbols carrier - (symbol + 1)) ≡ all
counted carrier symbol slot room places all is here l before =
    more _ _ _ here (rooms_next carrier symbol (subframe_symbols carrier) (subst (λ n. symbol < 2 * n) is l)) before
  where
    more : (left first rest : ℕ) → room ≡ first → left ≡ first + rest → places + left ≡ all → places + room + rest ≡ all
    more left first rest p q r = omega (arith, p, q, r)

pub loop-symbol-preserved : goal.loop-symbol-preserved
loop-symbol-preserved c =
    counted c.args.carrier c.loop-symbol.symbol _ _ c.loop-symbol.places _ c.slot_symbols-symbol-end.ensures.value c.block_room-places.ensures.value c.loop-symbol-test.true c.loop-symbol.invariant

pub overflow_add-places : goal.overflow_add-places
overflow_add-places c =
    let next = counted c.args.carrier c.loop-symbol.symbol _ _ c.loop-symbol.places _ c.slot_symbols-symbol-end.ensures.value c.block_room-places.ensures.value c.loop-symbol-test.true c.loop-symbol.invariant in
    omega (arith, next, at_most c.args.carrier c.args.cfi)
