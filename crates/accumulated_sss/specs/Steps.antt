-- The sums and counts in the form that the code computes: over lists of 62 values.
use Rattle.std.specs.Prelude.{ℕ, ◌+◌, List, ℤ, pos, ◌+ℤ◌, ◌*ℤ◌, slice_index_or}
use Rattle.std.specs.Int.{int_signum}
use Rattle.finite.specs.Sums.{sum_below}
use Rattle.finite.specs.Lists.{values_below}
use Rattle.cs_num.specs.declared.Cpx.{Cpx}
use Rattle.cs_num.specs.Complex.{times, conjugate, value_at}
use Rattle.lte_types.specs.declared.frame.Half.{Half}
use Rattle.sync_seq.specs.Middle.{middle}
use Rattle.sync_seq.specs.Secondary.{sss_at}
use Rattle.accumulated_sss.specs.Signs.{every_other, matches, next_half}
use Rattle.accumulated_sss.specs.Votes.{vote_of}

-- number `n` of a list of integers, or 0 past its end
abbrev pub number_at : List ℤ → ℕ → ℤ
number_at values n = slice_index_or values n (pos 0)

-- re (B conj z) for a demodulated value B
abbrev pub product_of : Cpx → Cpx → ℤ
product_of value z = (times value (conjugate z)).re

-- the 62 products of a demodulated symbol with z
unfoldable pub products_of : List Cpx → Cpx → List ℤ
products_of seen z = values_below 62 (λ n. product_of (value_at seen (middle n)) z)

-- the 62 votes for an energy and products
unfoldable pub votes_of : ℕ → List ℤ → List ℤ
votes_of energy products = values_below 62 (λ n. vote_of energy (number_at products n))

-- two lists of 62 integers, added
unfoldable pub added : List ℤ → List ℤ → List ℤ
added first second = values_below 62 (λ n. number_at first n +ℤ number_at second n)

-- 62 sums over the half-frames of one parity
unfoldable pub row_of : ℕ → ℕ → ℕ → (ℕ → ℕ → ℤ) → List ℤ
row_of halves t parity f = values_below 62 (λ n. every_other halves t parity (λ at. f at n))

-- the signs of 62 sums
unfoldable pub signs_of : List ℤ → List ℤ
signs_of row = values_below 62 (λ n. int_signum (number_at row n))

-- how many of 62 signs match
abbrev pub row_matches : List ℤ → (ℕ → ℤ) → ℕ
row_matches row signs = matches 62 (number_at row) signs

-- how many of two lists of 62 signs match those of the group `n1`, where half-frames of even number are `half`
unfoldable pub matches_by : List ℤ → List ℤ → ℕ → ℕ → Half → ℕ
matches_by even odd n2 n1 half =
    row_matches even (sss_at n1 n2 half) + row_matches odd (sss_at n1 n2 (next_half half))

-- the sum of 62 values, each times a sign
unfoldable pub signed_sum : List ℤ → (ℕ → ℤ) → ℤ
signed_sum row signs = sum_below 62 (λ n. signs n *ℤ number_at row n)

-- the matches in both lists by group and half-frame, as integers
abbrev pub counts_by : List ℤ → List ℤ → ℕ → ℕ → Half → ℤ
counts_by even odd n2 n1 half = pos (matches_by even odd n2 n1 half)

-- the sum of two lists of 62 products, each times the sign of the group `n1`, if half-frames of even number are `half`
unfoldable pub signal_sum_by : List ℤ → List ℤ → ℕ → ℕ → Half → ℤ
signal_sum_by even odd n2 n1 half =
    signed_sum even (sss_at n1 n2 half) +ℤ signed_sum odd (sss_at n1 n2 (next_half half))
