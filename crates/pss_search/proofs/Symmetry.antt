-- Symmetries, bounds and powers of the three signals, from their tables.
use Rattle.std.proofs.Common.{◌≡◌, ℕ, zero, suc, ◌+◌, ◌-◌, ◌<◌, ◌≤◌, Bool, true, List, ℤ, [], ◌∷◌, arith, refl, ap, sym, ◌∙◌, pos, get_or, nat_le}
use Rattle.std.specs.Prelude.{◌&&◌, nat_abs, slice_index_or}
use Rattle.std.proofs.lemmas.Bool.{and_parts, leb-true}
use Rattle.finite.specs.Sums.{total_below}
use Rattle.finite.specs.Tests.{every_below}
use Rattle.finite.specs.Lists.{values_below}
use Rattle.finite.proofs.Sums.{total_below_same}
use Rattle.finite.proofs.Tests.{every_below_at}
use Rattle.finite.specs.Sizes.{AllWithin}
use Rattle.finite.proofs.Lists.{values_below_at, values_below_same}
use Rattle.cs_num.specs.declared.Cpx.{Cpx}
use Rattle.cs_num.specs.Complex.{IsWithin, plus, conjugate, square}
use Rattle.cs_num.proofs.Tested.{is_same, is_same_tells}
use Rattle.pss_search.specs.Correlation.{wave, wave_power}
use Rattle.pss_search.specs.Products.{wave_re, wave_im, wave_part}
use Rattle.pss_search.proofs.SignalTables.{re_25, im_25, re_29, im_29, re_34, im_34, re_of, im_of, samples, wave_is}

-- ---- each signal is the same forward and backward

unfoldable is_mirrored : ℕ → ℕ → Bool
is_mirrored n2 m = is_same (samples n2 (127 - m)) (samples n2 (m + 1))

all_mirrored : every_below 3 (λ n2. every_below 127 (is_mirrored n2)) ≡ true
unfolding re_25 im_25 re_29 im_29 re_34 im_34 re_of im_of samples is_mirrored every_below
all_mirrored = refl

pub wave_mirrored : (n2 n : ℕ) → n2 < 3 → 1 ≤ n → n < 128 → wave n2 (128 - n) ≡ wave n2 n
unfolding is_mirrored
wave_mirrored n2 n known low high =
    let here = is_same_tells _ _ (every_below_at 127 (is_mirrored n2) (every_below_at 3 (λ n2. every_below 127 (is_mirrored n2)) all_mirrored n2 known) (n - 1) (omega (arith, low, high))) in
    let e : 128 - n ≡ 127 - (n - 1) = omega (arith, low, high) in
    let f : n - 1 + 1 ≡ n = omega (arith, low) in
    wave_is n2 (128 - n) known (omega (arith, low)) ∙ ap (samples n2) e ∙ here ∙ ap (samples n2) f ∙ sym (wave_is n2 n known high)

-- ---- the signal with root 34 is the conjugate of the one with root 29, except that rounding adds j at samples 0 and
-- 64

abbrev pub unit : Cpx
unit = record { re = pos 0; im = pos 1 }

unfoldable is_conjugate_after : ℕ → Bool
is_conjugate_after k = is_same (samples 2 (k + 1)) (conjugate (samples 1 (k + 1)))

all_conjugate : every_below 63 is_conjugate_after ≡ true
unfolding re_25 im_25 re_29 im_29 re_34 im_34 re_of im_of samples is_conjugate_after every_below
all_conjugate = refl

pub conjugate_between : (n : ℕ) → 1 ≤ n → n < 64 → wave 2 n ≡ conjugate (wave 1 n)
unfolding is_conjugate_after
conjugate_between n low high =
    let here = is_same_tells _ _ (every_below_at 63 is_conjugate_after all_conjugate (n - 1) (omega (arith, low, high))) in
    let e : n - 1 + 1 ≡ n = omega (arith, low) in
    wave_is 2 n (omega arith) (omega (arith, high)) ∙ ap (samples 2) (sym e) ∙ here ∙ ap (λ k. conjugate (samples 1 k)) e
    ∙ ap (λ (z : Cpx). conjugate z) (sym (wave_is 1 n (omega arith) (omega (arith, high))))

pub conjugate_after : (n : ℕ) → 64 < n → n < 128 → wave 2 n ≡ conjugate (wave 1 n)
conjugate_after n low high =
    sym (wave_mirrored 2 n (omega arith) (omega (arith, low)) high)
    ∙ conjugate_between (128 - n) (omega (arith, high)) (omega (arith, low))
    ∙ ap (λ (z : Cpx). conjugate z) (wave_mirrored 1 n (omega arith) (omega (arith, low)) high)

first_tables : samples 2 0 ≡ plus (conjugate (samples 1 0)) unit
unfolding re_29 im_29 re_34 im_34 re_of im_of samples
first_tables = refl

middle_tables : samples 2 64 ≡ plus (conjugate (samples 1 64)) unit
unfolding re_29 im_29 re_34 im_34 re_of im_of samples
middle_tables = refl

pub conjugate_first : wave 2 0 ≡ plus (conjugate (wave 1 0)) unit
conjugate_first =
    wave_is 2 0 (omega arith) (omega arith) ∙ first_tables ∙ ap (λ (z : Cpx). plus (conjugate z) unit) (sym (wave_is 1 0 (omega arith) (omega arith)))

pub conjugate_middle : wave 2 64 ≡ plus (conjugate (wave 1 64)) unit
conjugate_middle =
    wave_is 2 64 (omega arith) (omega arith) ∙ middle_tables ∙ ap (λ (z : Cpx). plus (conjugate z) unit) (sym (wave_is 1 64 (omega arith) (omega arith)))

-- ---- no sample has a component above 255

unfoldable is_small : ℕ → ℕ → Bool
is_small n2 n = nat_le (nat_abs (samples n2 n).re) 255 && nat_le (nat_abs (samples n2 n).im) 255

all_small : every_below 3 (λ n2. every_below 128 (is_small n2)) ≡ true
unfolding re_25 im_25 re_29 im_29 re_34 im_34 re_of im_of samples is_small every_below
all_small = refl

pub wave_small : (n2 n : ℕ) → n2 < 3 → n < 128 → IsWithin 255 (wave n2 n)
unfolding is_small
wave_small n2 n known l =
    let parts = and_parts _ _ (every_below_at 128 (is_small n2) (every_below_at 3 (λ n2. every_below 128 (is_small n2)) all_small n2 known) n l) in
    rw (wave_is n2 n known l) (record { re = leb-true _ _ parts.0; im = leb-true _ _ parts.1 })

-- ---- the samples as they are in the code

pub wave_re_is : (n2 : ℕ) → n2 < 3 → values_below 128 (λ n. get_or (re_of n2) n (pos 0)) ≡ wave_re n2
unfolding samples
wave_re_is n2 known = values_below_same 128 (λ n. get_or (re_of n2) n (pos 0)) (λ n. (wave n2 n).re) (λ n l. ap (λ z. z.re) (sym (wave_is n2 n known (omega (arith, l)))))

pub wave_im_is : (n2 : ℕ) → n2 < 3 → values_below 128 (λ n. get_or (im_of n2) n (pos 0)) ≡ wave_im n2
unfolding samples
wave_im_is n2 known = values_below_same 128 (λ n. get_or (im_of n2) n (pos 0)) (λ n. (wave n2 n).im) (λ n l. ap (λ z. z.im) (sym (wave_is n2 n known (omega (arith, l)))))

-- ---- the powers

abbrev tabled_power : ℕ → ℕ
tabled_power n2 = total_below 128 (λ n. square (samples n2 n))

power_tabled : (n2 : ℕ) → n2 < 3 → tabled_power n2 ≡ wave_power n2
unfolding wave_power
power_tabled n2 known = total_below_same 128 (λ n. square (samples n2 n)) (λ n. square (wave n2 n)) (λ n l. ap square (sym (wave_is n2 n known l)))

first_power : 1996394 ≡ tabled_power 0
unfolding re_25 im_25 re_of im_of samples total_below
first_power = refl

second_power : 2001625 ≡ tabled_power 1
unfolding re_29 im_29 re_of im_of samples total_below
second_power = refl

third_power : 2001665 ≡ tabled_power 2
unfolding re_34 im_34 re_of im_of samples total_below
third_power = refl

pub power_is : (n2 : ℕ) → n2 < 3 → slice_index_or {A = ℕ} (1996394 ∷ 2001625 ∷ 2001665 ∷ []) n2 0 ≡ wave_power n2
power_is zero known = first_power ∙ power_tabled 0 known
power_is (suc zero) known = second_power ∙ power_tabled 1 known
power_is (suc (suc zero)) known = third_power ∙ power_tabled 2 known
power_is (suc (suc (suc n2))) known = absurd (omega (arith, known))

-- each power is at least 1,990,000
pub power_high : (n2 : ℕ) → n2 ≤ 2 → 1990000 ≤ wave_power n2
power_high zero known = let e : 1996394 ≡ wave_power 0 = power_is 0 (omega arith) in omega (arith, e)
power_high (suc zero) known = let e : 2001625 ≡ wave_power 1 = power_is 1 (omega arith) in omega (arith, e)
power_high (suc (suc zero)) known = let e : 2001665 ≡ wave_power 2 = power_is 2 (omega arith) in omega (arith, e)
power_high (suc (suc (suc n2))) known = absurd (omega (arith, known))

-- each power is positive, and the third is the maximum
pub power_range : (n2 : ℕ) → n2 < 3 → (0 < wave_power n2) × (wave_power n2 ≤ 2001665)
power_range zero known = let e : 1996394 ≡ wave_power 0 = power_is 0 known in (omega (arith, e), omega (arith, e))
power_range (suc zero) known = let e : 2001625 ≡ wave_power 1 = power_is 1 known in (omega (arith, e), omega (arith, e))
power_range (suc (suc zero)) known = let e : 2001665 ≡ wave_power 2 = power_is 2 known in (omega (arith, e), omega (arith, e))
power_range (suc (suc (suc n2))) known = absurd (omega (arith, known))

-- ---- bounds

pub wave_re-small : (n2 : ℕ) → n2 ≤ 2 → AllWithin 255 (wave_re n2)
wave_re-small n2 known k d l = rw (values_below_at (λ n. (wave n2 n).re) 128 k d l) ((wave_small n2 k (omega (arith, known)) (omega (arith, l))).re)

pub wave_im-small : (n2 : ℕ) → n2 ≤ 2 → AllWithin 255 (wave_im n2)
wave_im-small n2 known k d l = rw (values_below_at (λ n. (wave n2 n).im) 128 k d l) ((wave_small n2 k (omega (arith, known)) (omega (arith, l))).im)

-- ---- the four lists of parts

pub part_is : (part : ℕ) → part < 4 → slice_index_or {A = List ℤ} (re_25 ∷ im_25 ∷ re_29 ∷ im_29 ∷ []) part [] ≡ wave_part part
unfolding re_25 im_25 re_29 im_29 re_of im_of
part_is zero known = wave_re_is 0 (omega arith)
part_is (suc zero) known = wave_im_is 0 (omega arith)
part_is (suc (suc zero)) known = wave_re_is 1 (omega arith)
part_is (suc (suc (suc zero))) known = wave_im_is 1 (omega arith)
part_is (suc (suc (suc (suc part)))) known = absurd (omega (arith, known))

pub wave_part-small : (part : ℕ) → AllWithin 255 (wave_part part)
wave_part-small zero = wave_re-small 0 (omega arith)
wave_part-small (suc zero) = wave_im-small 0 (omega arith)
wave_part-small (suc (suc zero)) = wave_re-small 1 (omega arith)
wave_part-small (suc (suc (suc part))) = wave_im-small 1 (omega arith)
