-- Bits and numbers, the most significant bit first.
use Rattle.std.specs.Prelude.{ℕ, zero, suc, ◌+◌, ◌/◌, ◌^◌, Bool, false, cond, List, [], ◌∷◌, length, slice_index_or}
use Rattle.finite.specs.Bits.{odd}
use Rattle.finite.specs.Lists.{values_below}

-- the number that a list of bits represents: a bit that n bits follow has the weight 2 ^ n
abbrev pub number : List Bool → ℕ
number [] = 0
number (b ∷ bs) = cond b (2 ^ length bs) 0 + number bs

-- the `width` low bits of the number `n`
abbrev pub bits_of : ℕ → ℕ → List Bool
bits_of zero n = []
bits_of (suc width) n = odd (n / 2 ^ width) ∷ bits_of width n

-- the `width` bits of `bits` from index `first`; past the end of the list, bits are 0
abbrev pub part : List Bool → ℕ → ℕ → List Bool
part bits first width = values_below width (λ i. slice_index_or bits (first + i) false)

-- the number in the `width` bits of `bits` from index `first`
abbrev pub field : List Bool → ℕ → ℕ → ℕ
field bits first width = number (part bits first width)
