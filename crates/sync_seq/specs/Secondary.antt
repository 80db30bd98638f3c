-- The SSS. (TS 36.211 section 6.11.2.1)
use Rattle.std.specs.Prelude.{ℕ, zero, suc, ◌+◌, ◌*◌, ◌/◌, ◌%◌, Bool, true, false, ◌==◌, List, [], ◌∷◌, ◌++◌, ℤ, pos, negsuc, ◌*ℤ◌, if◌then◌else◌, slice_index_or}
use Rattle.finite.specs.Bits.{xor}
use Rattle.finite.specs.Lists.{values_below}
use Rattle.cs_num.specs.declared.Cpx.{Cpx}
use Rattle.lte_types.specs.declared.frame.Half.{Half}
use Rattle.lte_types.specs.declared.frame.Half.TheVariants.{Zero, Five}

-- the three m-sequences s, c and z, by their recurrences
pub data Recurrence : Type 0 where
  S : Recurrence
  C : Recurrence
  Z : Recurrence

-- bit `i` of `bits`, or 0 past the end of the list
abbrev pub bit_or_zero : List Bool → ℕ → Bool
bit_or_zero bits i = slice_index_or bits i false

-- bit x(i + 5) of an m-sequence, modulo 2: x(i + 2) + x(i) for s, x(i + 3) + x(i) for c, and x(i + 4) + x(i + 2) + x(i
-- + 1) + x(i) for z
abbrev pub next_bit : Recurrence → List Bool → ℕ → Bool
next_bit S x i = xor (bit_or_zero x (i + 2)) (bit_or_zero x i)
next_bit C x i = xor (bit_or_zero x (i + 3)) (bit_or_zero x i)
next_bit Z x i =
    xor (xor (xor (bit_or_zero x (i + 4)) (bit_or_zero x (i + 2))) (bit_or_zero x (i + 1))) (bit_or_zero x i)

-- the first n + 5 bits of an m-sequence, which begins with 0, 0, 0, 0, 1
unfoldable pub extended : Recurrence → ℕ → List Bool
extended r zero = false ∷ false ∷ false ∷ false ∷ true ∷ []
extended r (suc n) = extended r n ++ next_bit r (extended r n) n ∷ []

-- one period of an m-sequence: the 31 bits x(0) to x(30)
unfoldable pub period_bits : Recurrence → List Bool
period_bits r = extended r 26

-- the sign 1 - 2 x(n), with n modulo 31
abbrev pub sign_at : List Bool → ℕ → ℤ
sign_at x n = if bit_or_zero x (n % 31) then negsuc 0 else pos 1

-- the standard's m' for group `n1`: n1 + q (q + 1) / 2
unfoldable pub shift_sum : ℕ → ℕ
shift_sum n1 =
    let q' : ℕ = n1 / 30 in
    let q : ℕ = (n1 + q' * (q' + 1) / 2) / 30 in
    n1 + q * (q + 1) / 2

-- the standard's m0 for group `n1`
abbrev pub m0_of : ℕ → ℕ
m0_of n1 = shift_sum n1 % 31

-- the standard's m1 for group `n1`
abbrev pub m1_of : ℕ → ℕ
m1_of n1 = (m0_of n1 + shift_sum n1 / 31 + 1) % 31

-- the cyclic shift of the even positions: m0 in subframe 0, m1 in subframe 5
abbrev pub even_shift : Half → ℕ → ℕ
even_shift Zero n1 = m0_of n1
even_shift Five n1 = m1_of n1

-- the cyclic shift of the odd positions: m1 in subframe 0, m0 in subframe 5
abbrev pub odd_shift : Half → ℕ → ℕ
odd_shift Zero n1 = m1_of n1
odd_shift Five n1 = m0_of n1

-- the SSS value d(2n), an even position, from one period of the m-sequences s and c
abbrev pub even_value : List Bool → List Bool → ℕ → ℕ → ℕ → ℤ
even_value s c n2 even n = sign_at s (n + even) *ℤ sign_at c (n + n2)

-- the SSS value d(2n + 1), an odd position, from one period of the m-sequences s, c and z
abbrev pub odd_value : List Bool → List Bool → List Bool → ℕ → ℕ → ℕ → ℕ → ℤ
odd_value s c z n2 even odd n = sign_at s (n + odd) *ℤ sign_at c (n + n2 + 3) *ℤ sign_at z (n + even % 8)

-- SSS value `k` with the cyclic shifts `even` and `odd`
unfoldable pub shifted_value : List Bool → List Bool → List Bool → ℕ → ℕ → ℕ → ℕ → ℤ
shifted_value s c z n2 even odd k =
    if k % 2 == 0 then even_value s c n2 even (k / 2) else odd_value s c z n2 even odd (k / 2)

-- SSS value `k` for the group `n1`, the identity `n2` within the group, and a half-frame
unfoldable pub sss_at : ℕ → ℕ → Half → ℕ → ℤ
sss_at n1 n2 half k =
    shifted_value (period_bits S) (period_bits C) (period_bits Z) n2 (even_shift half n1) (odd_shift half n1) k

-- the subcarrier value for a sign, 1 or -1 (the amplitude, 127, is own)
abbrev pub amplitude : ℤ → Cpx
amplitude sign = record { re = pos 127 *ℤ sign; im = pos 0 }

-- the subcarrier value for SSS value `n`
abbrev pub sss_amplitude : ℕ → ℕ → Half → ℕ → Cpx
sss_amplitude n1 n2 half n = amplitude (sss_at n1 n2 half n)

-- the 62 SSS values for the group `n1`, the identity `n2` within the group, and a half-frame
unfoldable pub sss_list : ℕ → ℕ → Half → List ℤ
sss_list n1 n2 half = values_below 62 (sss_at n1 n2 half)
