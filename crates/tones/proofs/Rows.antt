-- A residue's numbers among the folded samples, and the value at a frequency from them.
use Rattle.std.proofs.Common.{◌≡◌, ℕ, ◌+◌, ◌-◌, ◌*◌, ◌/◌, ◌%◌, ◌^◌, ◌<◌, ◌≤◌, arith, ap, ap₂, sym, ◌∙◌, List, length, drop}
use Rattle.std.specs.Prelude.{slice_range}
use Rattle.std.proofs.lemmas.List.{get_or-take, get_or-drop, length-take-le, length-drop}
use Rattle.std.proofs.lemmas.Nat.{div-mul-add, mul-le}
use Rattle.std.proofs.Math.Nat.{mul-add-mod_self_right, mod-eq_of_lt}
use Rattle.finite.proofs.Lists.{values_below_at, values_below-length}
use Rattle.cs_num.specs.declared.Cpx.{Cpx}
use Rattle.cs_num.specs.declared.Sample.{Sample}
use Rattle.cs_num.specs.Complex.{nothing, times, conjugate, value_at, value_of, sample_at, silence}
use Rattle.cs_num.specs.Rounding.{rounded}
use Rattle.cs_num.specs.Sums.{complex_sum_below}
use Rattle.cs_num.proofs.Sums.{complex_sum_below_same}
use Rattle.fold128.specs.Folding.{seen_of_four}
use Rattle.halving.specs.Wide.{Wide}
use Rattle.wide_cell.specs.Cell.{points}
use Rattle.tones.specs.Tones.{t_at, tone_at}
use Rattle.tones.specs.Seen.{frequency, seen_term, seen}
use Rattle.tones.specs.Folding.{folded_at, folded_samples, folded_term, row_of, value_from}
use Rattle.tones.proofs.Folds.{sum_folds}
use Rattle.tones.proofs.Sizes.{quarter_of_points, points_of_quarter}

-- a row has a quarter of the numbers
pub row-length : (folded : List Cpx) (quarter f : ℕ) → length folded ≡ 4 * quarter → length (row_of folded quarter f) ≡ quarter
row-length folded quarter f all =
    let inside : f % 4 * quarter + quarter ≤ 4 * quarter = rows_below (f % 4) (omega arith) in
    length-take-le (f % 4 * quarter + quarter - f % 4 * quarter) (drop (f % 4 * quarter) folded) (omega (arith, inside, all, length-drop (f % 4 * quarter) folded))
    ∙ (let e : f % 4 * quarter + quarter - f % 4 * quarter ≡ quarter = omega arith in e)
  where
    rows_below : (r : ℕ) → r < 4 → r * quarter + quarter ≤ 4 * quarter
    rows_below r few = let h = mul-le (r + 1) quarter 4 quarter (omega (arith, few)) (omega arith) in omega (arith, h)

-- number m of a frequency's row
row_at : (samples : ℕ → Cpx) (quarter f m : ℕ) → m < quarter →
    value_at (row_of (folded_samples quarter samples) quarter f) m
    ≡ seen_of_four (f % 4) (samples m) (samples (m + quarter)) (samples (m + 2 * quarter)) (samples (m + 3 * quarter))
unfolding folded_samples
row_at samples quarter f m below =
    get_or-take (f % 4 * quarter + quarter - f % 4 * quarter) (drop (f % 4 * quarter) (folded_samples quarter samples)) m nothing (omega (arith, below))
    ∙ get_or-drop (f % 4 * quarter) (folded_samples quarter samples) m nothing
    ∙ values_below_at (folded_at quarter samples) (4 * quarter) (f % 4 * quarter + m) nothing (inside (f % 4) (omega arith))
    ∙ ap₂ (λ (n i : ℕ). seen_of_four n (samples i) (samples (i + quarter)) (samples (i + 2 * quarter)) (samples (i + 3 * quarter)))
    (div-mul-add (f % 4) quarter m below)
    (mul-add-mod_self_right (f % 4) quarter m ∙ mod-eq_of_lt below)
  where
    inside : (r : ℕ) → r < 4 → r * quarter + m < 4 * quarter
    inside r few = let h = mul-le (r + 1) quarter 4 quarter (omega (arith, few)) (omega arith) in omega (arith, h, below)

-- the value at a frequency equals the plain sum over the samples, rounded
pub value_is : (samples : ℕ → Cpx) (rate f : ℕ) → rate ≤ 4 →
    value_from (folded_samples (points rate / 4) samples) rate f
    ≡ rounded (complex_sum_below (points rate) (λ i. times (samples i) (conjugate (tone_at rate (f * i))))) (16 + rate)
unfolding value_from
value_is samples rate f few =
    ap (λ s. rounded s (16 + rate))
    (complex_sum_below_same (points rate / 4)
    (folded_term (row_of (folded_samples (points rate / 4) samples) (points rate / 4) f) (2 ^ (4 - rate) * f))
    (λ m. times (seen_of_four (f % 4) (samples m) (samples (m + points rate / 4)) (samples (m + 2 * (points rate / 4))) (samples (m + 3 * (points rate / 4)))) (conjugate (t_at (2 ^ (4 - rate) * f * m))))
    (λ m l. ap (λ z. times z (conjugate (t_at (2 ^ (4 - rate) * f * m)))) (row_at samples (points rate / 4) f m l))
    ∙ sym (sum_folds samples (2 ^ (4 - rate)) f (points rate / 4) (quarter_of_points rate few))
    ∙ ap (λ n. complex_sum_below n (λ i. times (samples i) (conjugate (tone_at rate (f * i))))) (points_of_quarter rate))

-- the value received at a subcarrier, from the folded samples of its symbol
pub seen_is : (wide : Wide) (blocks start k n : ℕ) → wide.rate ≤ 4 → n ≡ points wide.rate →
    value_from (folded_samples (points wide.rate / 4) (sample_at (slice_range wide.samples start (start + n)))) wide.rate (frequency wide.rate blocks k)
    ≡ seen wide blocks start k
unfolding seen
seen_is wide blocks start k n few e =
    value_is (sample_at (slice_range wide.samples start (start + n))) wide.rate (frequency wide.rate blocks k) few
    ∙ ap (λ s. rounded s (16 + wide.rate)) (complex_sum_below_same (points wide.rate)
    (λ i. times (sample_at (slice_range wide.samples start (start + n)) i) (conjugate (tone_at wide.rate (frequency wide.rate blocks k * i))))
    (seen_term wide start (frequency wide.rate blocks k))
    (λ i l. ap (λ (s : Sample). times (value_of s) (conjugate (tone_at wide.rate (frequency wide.rate blocks k * i))))
    (get_or-take (start + n - start) (drop start wide.samples) i silence (omega (arith, l, e)) ∙ get_or-drop start wide.samples i silence)))

-- the folded samples of a symbol in a recording
pub folded_slice : (samples : List Sample) (start n : ℕ) (folded : List Cpx) → start + n ≤ length samples →
    folded ≡ folded_samples (length (slice_range samples start (start + n)) / 4) (sample_at (slice_range samples start (start + n))) →
    folded ≡ folded_samples (n / 4) (sample_at (slice_range samples start (start + n)))
folded_slice samples start n folded inside is =
    let long : length (slice_range samples start (start + n)) ≡ n =
    length-take-le (start + n - start) (drop start samples) (omega (arith, inside, length-drop start samples)) ∙ (let e : start + n - start ≡ n = omega arith in e) in
    is ∙ ap (λ m. folded_samples (m / 4) (sample_at (slice_range samples start (start + n)))) long

pub folded-length : (samples : ℕ → Cpx) (rate : ℕ) (folded : List Cpx) → folded ≡ folded_samples (points rate / 4) samples → length folded ≡ points rate
unfolding folded_samples
folded-length samples rate folded is =
    ap length is ∙ values_below-length (4 * (points rate / 4)) (folded_at (points rate / 4) samples) ∙ points_of_quarter rate
