-- Folding samples a quarter symbol apart: a quarter period of T multiplies by j, so four such samples combine to one
-- number per frequency residue modulo 4. (own)
use Rattle.std.specs.Prelude.{ℕ, ◌+◌, ◌-◌, ◌*◌, ◌/◌, ◌%◌, ◌^◌, List, slice_range}
use Rattle.finite.specs.Lists.{values_below}
use Rattle.cs_num.specs.declared.Cpx.{Cpx}
use Rattle.cs_num.specs.Complex.{times, conjugate, value_at}
use Rattle.cs_num.specs.Rounding.{rounded}
use Rattle.cs_num.specs.Sums.{complex_sum_below}
use Rattle.fold128.specs.Folding.{seen_of_four}
use Rattle.wide_cell.specs.Cell.{points}
use Rattle.tones.specs.Tones.{t_at}

-- the number at index n: n / quarter is the residue, n % quarter the first of the four samples
abbrev pub folded_at : ℕ → (ℕ → Cpx) → ℕ → Cpx
folded_at quarter samples n =
    seen_of_four (n / quarter) (samples (n % quarter)) (samples (n % quarter + quarter))
    (samples (n % quarter + 2 * quarter)) (samples (n % quarter + 3 * quarter))

-- the numbers of all four residues, one residue after the other
unfoldable pub folded_samples : ℕ → (ℕ → Cpx) → List Cpx
folded_samples quarter samples = values_below (4 * quarter) (folded_at quarter samples)

-- the contribution of a residue's number m, if T's index advances by `step` per number
abbrev pub folded_term : List Cpx → ℕ → ℕ → Cpx
folded_term row step m = times (value_at row m) (conjugate (t_at (step * m)))

-- the numbers for a frequency's residue
abbrev pub row_of : List Cpx → ℕ → ℕ → List Cpx
row_of folded quarter frequency =
    slice_range folded (frequency % 4 * quarter) (frequency % 4 * quarter + quarter)

-- the value received at a frequency, from folded samples
unfoldable pub value_from : List Cpx → ℕ → ℕ → Cpx
value_from folded rate frequency =
    rounded (complex_sum_below (points rate / 4)
    (folded_term (row_of folded (points rate / 4) frequency) (2 ^ (4 - rate) * frequency))) (16 + rate)
