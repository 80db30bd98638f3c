-- The scores in the form that the code computes: sums over lists of agreements.
use Rattle.std.specs.Prelude.{ℕ, ◌+◌, ◌*◌, ◌/◌, ◌%◌, List, ℤ, pos, ◌*ℤ◌, slice_index_or}
use Rattle.finite.specs.Sums.{sum_below}
use Rattle.finite.specs.Lists.{values_below}
use Rattle.cs_num.specs.declared.Cpx.{Cpx}
use Rattle.lte_types.specs.declared.frame.Half.{Half}
use Rattle.sync_seq.specs.Secondary.{S, C, Z, period_bits, shifted_value, sss_at}
use Rattle.sss_detect.specs.Scores.{agreement}

-- the agreements at all 62 values of the secondary sequence
unfoldable pub agreements_of : (ℕ → Cpx) → (ℕ → Cpx) → ℕ → List ℤ
agreements_of primary secondary n2 = values_below 62 (agreement primary secondary n2)

-- the sum of `n` agreements, at every other index from `first`, each multiplied by the sign of the secondary sequence
-- with shifts `even` and `odd`
unfoldable pub places_sum : List ℤ → ℕ → ℕ → ℕ → ℕ → ℕ → ℤ
places_sum agreements n2 even odd first n =
    sum_below n (λ i. shifted_value (period_bits S) (period_bits C) (period_bits Z) n2 even odd (2 * i + first)
    *ℤ slice_index_or agreements (2 * i + first) (pos 0))

-- the sum of the agreements at even indices, each multiplied by the secondary sequence's sign for the even shift
-- `shift`; the odd shift does not affect the sign at even indices
abbrev pub even_sum : List ℤ → ℕ → ℕ → ℤ
even_sum agreements n2 shift = places_sum agreements n2 shift 0 0 31

-- the sum of the agreements at odd indices, each multiplied by the secondary sequence's sign for the odd shift i / 8
-- and any even shift that equals i modulo 8
abbrev pub odd_sum : List ℤ → ℕ → ℕ → ℤ
odd_sum agreements n2 i = places_sum agreements n2 (i % 8) (i / 8) 1 31

-- the score of identity group `n1` in a half-frame, from a list of 62 agreements
unfoldable pub score_by : List ℤ → ℕ → ℕ → Half → ℤ
score_by agreements n2 n1 half = sum_below 62 (λ n. sss_at n1 n2 half n *ℤ slice_index_or agreements n (pos 0))
