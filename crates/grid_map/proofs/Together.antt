-- The PDSCH's resource elements come in pairs, and both in a pair are in one symbol.
use Rattle.std.proofs.Common.{◌≡◌, ℕ, zero, suc, ◌+◌, ◌-◌, ◌*◌, ◌%◌, ◌<◌, ◌≤◌, inl, inr, Bool, true, false, cond, length, ap, sym, subst, ◌∙◌, arith}
use Rattle.std.proofs.lemmas.Bool.{cases_lt}
use Rattle.lte_types.specs.declared.carrier.Carrier.{Carrier}
use Rattle.grid_map.specs.declared.Place.{Place}
use Rattle.grid_map.specs.Shared.{slot_symbols, subframe_symbols, is_synchronisation, pilots_of_block, block_room, shared_places_of, shared_place_of}
use Rattle.grid_map.proofs.LeftOut.{of_count}
use Rattle.grid_map.proofs.Symbols.{IsAhead, subframe_bounds, pdsch_count, ahead_first, ahead_later, ahead_here, ahead_never}

-- a symbol has an even number of PDSCH resource elements
room_even : (carrier : Carrier) (symbol blocks : ℕ) → (block_room carrier symbol * blocks) % 2 ≡ 0
room_even carrier symbol blocks = cases (is_synchronisation carrier symbol)
  where
    cases : (b : Bool) → (cond b 0 (12 - pilots_of_block carrier (symbol % slot_symbols carrier)) * blocks) % 2 ≡ 0
    cases true = omega arith
    cases false = of_count (λ pilots. ((12 - pilots) * blocks) % 2 ≡ 0) (omega arith) (omega arith) (omega arith) carrier (symbol % slot_symbols carrier)

module _ (carrier : Carrier) (identity cfi start blocks i : ℕ) (low : 2 ≤ cfi) (high : cfi ≤ 3) (few : start + blocks ≤ 6) where
  search : (n symbol left : ℕ) → n + symbol ≡ subframe_symbols carrier → cfi < symbol → left % 2 ≡ 0 → IsAhead carrier identity cfi start blocks i symbol left → IsAhead carrier identity cfi start blocks (i + 1) symbol (left + 1) →
      (shared_place_of carrier identity cfi start blocks i).symbol ≡ (shared_place_of carrier identity cfi start blocks (i + 1)).symbol
  search zero symbol left sum after even first second = absurd (ahead_never carrier identity cfi start blocks i symbol left (omega (arith, sum)) first)
  search (suc n) symbol left sum after even first second =
      let size = room_even carrier symbol blocks in
      elim (cases_lt left (block_room carrier symbol * blocks)) [
        | inl here ↦
            ap (λ (p : Place). p.symbol) (sym (ahead_here carrier identity cfi start blocks i symbol left few (omega (arith, sum)) after here first))
            ∙ ap (λ (p : Place). p.symbol) (ahead_here carrier identity cfi start blocks (i + 1) symbol (left + 1) few (omega (arith, sum)) after (omega (arith, here, even, size)) second)
        | inr past ↦
            search n (symbol + 1) (left - block_room carrier symbol * blocks) (omega (arith, sum)) (omega (arith, after)) (omega (arith, past, even, size))
            (ahead_later carrier identity cfi start blocks i symbol left few (omega (arith, sum)) after past first)
            (let next = ahead_later carrier identity cfi start blocks (i + 1) symbol (left + 1) few (omega (arith, sum)) after (omega (arith, past)) second in
            let same : left + 1 - block_room carrier symbol * blocks ≡ left - block_room carrier symbol * blocks + 1 = omega (arith, past) in
            subst (IsAhead carrier identity cfi start blocks (i + 1) (symbol + 1)) same next)
      ]

  pub pair_in_one_symbol : i % 2 ≡ 0 → i + 1 < length (shared_places_of carrier identity cfi start blocks) →
      (shared_place_of carrier identity cfi start blocks i).symbol ≡ (shared_place_of carrier identity cfi start blocks (i + 1)).symbol
  pair_in_one_symbol even inside =
      let count = pdsch_count carrier identity cfi start blocks low high few in
      let wide = (subframe_bounds carrier).0 in
      search (subframe_symbols carrier - (cfi + 1)) (cfi + 1) i (omega (arith, high, wide)) (omega arith) even
      (ahead_first carrier identity cfi start blocks i low high few (omega (arith, count, inside)))
      (ahead_first carrier identity cfi start blocks (i + 1) low high few (omega (arith, count, inside)))
