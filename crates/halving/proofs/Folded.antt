-- The filter's sum with symmetric taps added first: it fits 64 bits, and equals the sum over all taps.
use Rattle.std.proofs.Common.{◌≡◌, ◌+◌, ◌*◌, ◌≤◌, arith, ℕ, ℤ, pos, ◌+ℤ◌, ◌-ℤ◌, ◌*ℤ◌, FitsSigned, w64, List, neg_ℤ, ap, ◌∙◌}
use Rattle.std.specs.Prelude.{nat_abs, slice_index_or}
use Rattle.std.proofs.lemmas.Int.{ints, fits_signed_from_abs}
use Rattle.finite.specs.Sums.{sum_below}
use Rattle.cs_num.specs.declared.Cpx.{Cpx}
use Rattle.cs_num.specs.declared.Sample.{Sample}
use Rattle.cs_num.specs.Complex.{plus, scaled}
use Rattle.cs_num.specs.Sums.{complex_sum_below}
use Rattle.cs_num.proofs.Complex.{pair}
use Rattle.halving.specs.Halved.{taps, delayed, tap_term}
use Rattle.halving.specs.Steps.{folded_part, folded_sum}

-- the partial sums of `folded_part` fit 64 bits
pub record Parts (m a b c d : ℤ) : Type 0 where
  pub middle : FitsSigned w64 (pos 2052 *ℤ m)
  pub first : FitsSigned w64 (pos 1257 *ℤ a)
  pub two : FitsSigned w64 (pos 2052 *ℤ m +ℤ pos 1257 *ℤ a)
  pub third : FitsSigned w64 (pos 311 *ℤ b)
  pub three : FitsSigned w64 (pos 2052 *ℤ m +ℤ pos 1257 *ℤ a -ℤ pos 311 *ℤ b)
  pub fifth : FitsSigned w64 (pos 97 *ℤ c)
  pub four : FitsSigned w64 (pos 2052 *ℤ m +ℤ pos 1257 *ℤ a -ℤ pos 311 *ℤ b +ℤ pos 97 *ℤ c)
  pub seventh : FitsSigned w64 (pos 21 *ℤ d)
  pub five : FitsSigned w64 (folded_part m a b c d)

pub folded_within : (m a b c d : ℤ) → nat_abs m ≤ 32768 → nat_abs a ≤ 65536 → nat_abs b ≤ 65536 → nat_abs c ≤ 65536 → nat_abs d ≤ 65536 →
    nat_abs (folded_part m a b c d) ≤ 177733632
folded_within m a b c d hm ha hb hc hd = omega (arith, ints, hm, ha, hb, hc, hd)

pub parts_fit : (m a b c d : ℤ) → nat_abs m ≤ 32768 → nat_abs a ≤ 65536 → nat_abs b ≤ 65536 → nat_abs c ≤ 65536 → nat_abs d ≤ 65536 → Parts m a b c d
parts_fit m a b c d hm ha hb hc hd = record {
  middle = fits_signed_from_abs w64 _ (omega (arith, ints, hm));
  first = fits_signed_from_abs w64 _ (omega (arith, ints, ha));
  two = fits_signed_from_abs w64 _ (omega (arith, ints, hm, ha));
  third = fits_signed_from_abs w64 _ (omega (arith, ints, hb));
  three = fits_signed_from_abs w64 _ (omega (arith, ints, hm, ha, hb));
  fifth = fits_signed_from_abs w64 _ (omega (arith, ints, hc));
  four = fits_signed_from_abs w64 _ (omega (arith, ints, hm, ha, hb, hc));
  seventh = fits_signed_from_abs w64 _ (omega (arith, ints, hd));
  five = fits_signed_from_abs w64 _ (omega (arith, folded_within m a b c d hm ha hb hc hd));
}

-- the sum over all taps of one component, x being its 15 samples
unfoldable part_sum : (ℕ → ℤ) → ℤ
part_sum x = sum_below 15 (λ t. slice_index_or taps t (pos 0) *ℤ x t)

folds : (x0 x1 x2 x3 x4 x5 x6 x7 x8 x9 x10 x11 x12 x13 x14 : ℤ) →
    folded_part x7 (x6 +ℤ x8) (x4 +ℤ x10) (x2 +ℤ x12) (x0 +ℤ x14)
    ≡ pos 0 +ℤ (neg_ℤ (pos 21)) *ℤ x0 +ℤ pos 0 *ℤ x1 +ℤ pos 97 *ℤ x2 +ℤ pos 0 *ℤ x3 +ℤ neg_ℤ (pos 311) *ℤ x4 +ℤ pos 0 *ℤ x5 +ℤ pos 1257 *ℤ x6 +ℤ pos 2052 *ℤ x7
    +ℤ pos 1257 *ℤ x8 +ℤ pos 0 *ℤ x9 +ℤ neg_ℤ (pos 311) *ℤ x10 +ℤ pos 0 *ℤ x11 +ℤ pos 97 *ℤ x12 +ℤ pos 0 *ℤ x13 +ℤ neg_ℤ (pos 21) *ℤ x14
folds x0 x1 x2 x3 x4 x5 x6 x7 x8 x9 x10 x11 x12 x13 x14 = omega (arith, ints)

part_folds : (x : ℕ → ℤ) → folded_part (x 7) (x 6 +ℤ x 8) (x 4 +ℤ x 10) (x 2 +ℤ x 12) (x 0 +ℤ x 14) ≡ part_sum x
unfolding part_sum sum_below taps
part_folds x = folds (x 0) (x 1) (x 2) (x 3) (x 4) (x 5) (x 6) (x 7) (x 8) (x 9) (x 10) (x 11) (x 12) (x 13) (x 14)

sum_folds_by : (x : ℕ → Cpx) →
    folded_sum (x 7) (plus (x 6) (x 8)) (plus (x 4) (x 10)) (plus (x 2) (x 12)) (plus (x 0) (x 14))
    ≡ complex_sum_below 15 (λ t. scaled (slice_index_or taps t (pos 0)) (x t))
unfolding part_sum
sum_folds_by x = pair (part_folds (λ t. (x t).re)) (part_folds (λ t. (x t).im))

-- the filter's sum for output sample i
pub sum_folds : (samples : List Sample) (i : ℕ) →
    folded_sum (delayed samples (2 * i + 7))
    (plus (delayed samples (2 * i + 6)) (delayed samples (2 * i + 8)))
    (plus (delayed samples (2 * i + 4)) (delayed samples (2 * i + 10)))
    (plus (delayed samples (2 * i + 2)) (delayed samples (2 * i + 12)))
    (plus (delayed samples (2 * i)) (delayed samples (2 * i + 14)))
    ≡ complex_sum_below 15 (tap_term samples i)
sum_folds samples i =
    let first : 2 * i ≡ 2 * i + 0 = omega arith in
    ap (λ j. folded_sum (delayed samples (2 * i + 7))
    (plus (delayed samples (2 * i + 6)) (delayed samples (2 * i + 8)))
    (plus (delayed samples (2 * i + 4)) (delayed samples (2 * i + 10)))
    (plus (delayed samples (2 * i + 2)) (delayed samples (2 * i + 12)))
    (plus (delayed samples j) (delayed samples (2 * i + 14)))) first
    ∙ sum_folds_by (λ t. delayed samples (2 * i + t))
