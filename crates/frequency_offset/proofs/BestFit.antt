-- The best match, offset by offset.
use Rattle.std.proofs.Common.{◌≡◌, ℕ, zero, suc, ◌+◌, ◌-◌, ◌≤◌, arith, refl, ℤ, int_lt}
use Rattle.std.specs.Prelude.{if◌then◌else◌}
use Rattle.cs_num.specs.declared.Cpx.{Cpx}
use Rattle.sss_detect.specs.Identity.{first_greatest}
use Rattle.sss_detect.proofs.Choices.{first_greatest-le}
use Rattle.frequency_offset.specs.Order.{by_magnitude}
use Rattle.frequency_offset.specs.Fine.{fit}

-- how well offset k, by magnitude, matches
abbrev pub fit_at : Cpx → ℕ → ℤ
fit_at sum k = fit sum (by_magnitude k)

pub first_fit : (f : ℕ → ℤ) → 0 ≡ first_greatest f (1 - 1)
unfolding first_greatest
first_fit f = refl

pub next_fit : (f : ℕ → ℤ) (k best new : ℕ) → 1 ≤ k → best ≡ first_greatest f (k - 1) → new ≡ (if int_lt (f best) (f k) then k else best) →
    new ≡ first_greatest f (k + 1 - 1)
unfolding first_greatest
next_fit f zero best new some before e = absurd (omega (arith, some))
next_fit f (suc n) best new some before e =
    let here : suc n + 1 - 1 ≡ suc n = omega arith in
    let last : suc n - 1 ≡ n = omega arith in
    let b : best ≡ first_greatest f n = rw last at before in
    rw here (rw b at e)

pub best_below : (f : ℕ → ℤ) (k best : ℕ) → best ≡ first_greatest f (k - 1) → best ≤ k - 1
best_below f k best e = let l = first_greatest-le f (k - 1) in omega (arith, e, l)
