use Rattle.std.proofs.Common.{arith, rules, ◌≡◌, ℕ, ◌+◌, ◌*◌, ◌/◌, ◌%◌, ◌≤◌, ◌<◌, ◌^◌, ◌∙◌, ap, ap₂, List, ℤ, pos, ◌+ℤ◌, length, slice_index_or, to_z, of_z, FitsSigned}
use Rattle.std.specs.Int.{w128}
use Rattle.std.specs.Prelude.{nat_abs}
use Rattle.std.proofs.lemmas.Int.{to_z-of_z, fits_signed_from_abs}
use Rattle.finite.specs.Lists.{values_below}
use Rattle.finite.specs.Sizes.{AllWithin}
use Rattle.finite.proofs.Integers.{abs-sum}
use Rattle.finite.proofs.Lists.{values_below_at}
use Rattle.lte_types.specs.declared.frame.Half.{Half}
use Rattle.sync_seq.specs.Secondary.{even_shift, odd_shift}
use Rattle.sss_detect.specs.Steps.{places_sum, even_sum, odd_sum, score_by}
use Rattle.sss_detect.proofs.Scoring.{places_sum-size, sums_score}
use Rattle.sss_detect.proofs.score.ShiftSums.score_of.Goals as goal

even_read : (a sums : List ℤ) (n2 shift : ℕ) → sums ≡ values_below 31 (even_sum a n2) → shift < 31 → slice_index_or sums shift (pos 0) ≡ places_sum a n2 shift 0 0 31
even_read a sums n2 shift is inside = ap (λ list. slice_index_or list shift (pos 0)) is ∙ values_below_at (even_sum a n2) 31 shift (pos 0) inside

odd_read : (a sums : List ℤ) (n2 even odd : ℕ) → sums ≡ values_below 248 (odd_sum a n2) → odd < 31 → slice_index_or sums (8 * odd + even % 8) (pos 0) ≡ places_sum a n2 (even % 8) odd 1 31
odd_read a sums n2 even odd is inside =
    let r : (8 * odd + even % 8) % 8 ≡ even % 8 = omega arith in
    let q : (8 * odd + even % 8) / 8 ≡ odd = omega arith in
    ap (λ list. slice_index_or list (8 * odd + even % 8) (pos 0)) is
    ∙ values_below_at (odd_sum a n2) 248 (8 * odd + even % 8) (pos 0) (omega (arith, inside))
    ∙ ap₂ (λ (e o : ℕ). places_sum a n2 e o 1 31) r q

-- both sums, read from the tables
record Read (a : List ℤ) (n2 even odd : ℕ) (x y : ℤ) : Type 0 where
  x_is : x ≡ places_sum a n2 even 0 0 31
  y_is : y ≡ places_sum a n2 (even % 8) odd 1 31
  x_fits : FitsSigned w128 x
  y_fits : FitsSigned w128 y
  fits : FitsSigned w128 (x +ℤ y)

read : (a evens odds : List ℤ) (n2 even odd : ℕ) → AllWithin (2 ^ 59) a → length a ≡ 62 → evens ≡ values_below 31 (even_sum a n2) → odds ≡ values_below 248 (odd_sum a n2) → even < 31 → odd < 31
    → Read a n2 even odd (slice_index_or evens even (pos 0)) (slice_index_or odds (8 * odd + even % 8) (pos 0))
read a evens odds n2 even odd small long e o h g =
    let x = even_read a evens n2 even e h in
    let y = odd_read a odds n2 even odd o g in
    let p = places_sum-size a n2 even 0 0 31 small long (omega arith) (omega arith) in
    let q = places_sum-size a n2 (even % 8) odd 1 31 small long (omega arith) (omega arith) in
    let px = ap nat_abs x in
    let qy = ap nat_abs y in
    record {
      x_is = x;
      y_is = y;
      x_fits = fits_signed_from_abs w128 _ (omega (arith, p, px));
      y_fits = fits_signed_from_abs w128 _ (omega (arith, q, qy));
      fits = fits_signed_from_abs w128 _ (omega (arith, p, q, px, qy, abs-sum (slice_index_or evens even (pos 0)) (slice_index_or odds (8 * odd + even % 8) (pos 0))));
    }

pub overflow_add-result-2 : goal.overflow_add-result-2
overflow_add-result-2 c =
    let sums = c.args.self.now in
    let shifts = c.sss_shifts-even in
    let r : Read sums.agreements.now sums.n2 shifts.result.0 shifts.result.1 (slice_index_or sums.even shifts.result.0 (pos 0)) (slice_index_or sums.odd (8 * shifts.result.1 + shifts.result.0 % 8) (pos 0)) =
    read sums.agreements.now sums.even sums.odd sums.n2 shifts.result.0 shifts.result.1 c.requires.small sums.long sums.even_is sums.odd_is shifts.ensures.even_small shifts.ensures.odd_small in
    let x = r.x_fits in
    let y = r.y_fits in
    simp to_z-of_z r.fits

pub returns : goal.returns
returns c =
    let sums = c.args.self.now in
    let shifts = c.sss_shifts-even in
    let r : Read sums.agreements.now sums.n2 shifts.result.0 shifts.result.1 (slice_index_or sums.even shifts.result.0 (pos 0)) (slice_index_or sums.odd (8 * shifts.result.1 + shifts.result.0 % 8) (pos 0)) =
    read sums.agreements.now sums.even sums.odd sums.n2 shifts.result.0 shifts.result.1 c.requires.small sums.long sums.even_is sums.odd_is shifts.ensures.even_small shifts.ensures.odd_small in
    let x = r.x_fits in
    let y = r.y_fits in
    let f = r.fits in
    simp to_z-of_z (ap₂ ◌+ℤ◌ r.x_is r.y_is
    ∙ ap₂ (λ (e o : ℕ). places_sum sums.agreements.now sums.n2 e 0 0 31 +ℤ places_sum sums.agreements.now sums.n2 (e % 8) o 1 31) shifts.ensures.even shifts.ensures.odd
    ∙ sums_score sums.agreements.now sums.n2 c.args.n1 c.args.half)
