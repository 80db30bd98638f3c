-- Demodulated amplitudes near a waveform: the leakage, the errors relative to the waveform and the demodulated value's
-- rounding, in units of 2^27 times the gains' root sum square.
use Rattle.std.proofs.Common.{◌≡◌, ℕ, ◌+◌, ◌*◌, ◌^◌, ◌≤◌, arith, refl, ap, sym, subst, ◌∙◌, ℤ, pos, ◌+ℤ◌, ◌-ℤ◌, ◌*ℤ◌, mul-le-mul, mul-le-mul_left, mul-le-mul_right}
use Rattle.std.proofs.Math.Path.{fun_ext}
use Rattle.finite.proofs.Ring.{var, lit, same}
use Rattle.finite.proofs.Ring as ring
use Rattle.cs_num.specs.declared.Cpx.{Cpx}
use Rattle.cs_num.specs.Complex.{plus, square, minus, multiple}
use Rattle.cs_num.proofs.Complex.{pair}
use Rattle.norms.specs.Magnitudes.{IsBounded, energy_below, correlation_below}
use Rattle.norms.proofs.Algebra.{plus-minus, minus-plus, multiple_twice}
use Rattle.norms.proofs.Squares.{square-multiple}
use Rattle.norms.proofs.Bounded.{bounded-plus}
use Rattle.norms.proofs.Cauchy.{correlation_same, correlation_plus, correlation_multiple}
use Rattle.fold128.specs.Tables.{w_at}
use Rattle.fold128.specs.Symbol.{frequency}
use Rattle.fold128.specs.Spectrum.{spectrum_at}
use Rattle.budget.specs.Received.{in_parts, off_by, received_of}
use Rattle.budget.specs.Budget.{seen_in}
use Rattle.budget.proofs.Causes.{three_causes}
use Rattle.waveform.specs.Waveform.{waveform}
use Rattle.waveform.specs.WaveformLaws.{WaveformIsSeen}
use Rattle.waveform.proofs.Spectra.{deviation-small}

-- ---- the three causes

-- the errors of samples relative to values in units of 2^-31
abbrev errors : (ℕ → Cpx) → (ℕ → Cpx) → ℕ → Cpx
errors samples wave n = minus (multiple (2 ^ 31) (samples n)) (wave n)

-- the demodulated errors are those of the demodulated samples and waveform
errors_are : (samples wave : ℕ → Cpx) (k : ℕ) → spectrum_at (errors samples wave) k ≡ minus (multiple (2 ^ 31) (spectrum_at samples k)) (spectrum_at wave k)
unfolding spectrum_at
errors_are samples wave k =
    let tone : ℕ → Cpx = λ n. w_at (frequency k * n) in
    let x : Cpx = correlation_below 128 wave tone in
    let e : Cpx = correlation_below 128 (errors samples wave) tone in
    let whole : multiple (2 ^ 31) (correlation_below 128 samples tone) ≡ plus x e =
    sym (correlation_multiple 128 (2 ^ 31) samples tone)
    ∙ correlation_same 128 (λ n. multiple (2 ^ 31) (samples n)) (λ n. plus (wave n) (errors samples wave n)) tone tone (λ n l. sym (plus-minus (multiple (2 ^ 31) (samples n)) (wave n))) (λ n l. refl)
    ∙ correlation_plus 128 wave (errors samples wave) tone in
    sym (ap (λ (z : Cpx). minus z x) whole ∙ minus-plus x e)

-- one component: s is demodulated, p the amplitude, x the demodulated waveform, and y the demodulated samples
whole_part : (s p x y : ℤ) →
    pos 536870912 *ℤ (pos 16384 *ℤ s -ℤ pos 64 *ℤ p)
    ≡ x -ℤ pos 34359738368 *ℤ p +ℤ ((pos 2147483648 *ℤ y -ℤ x) +ℤ pos 2147483648 *ℤ (pos 4096 *ℤ s -ℤ y))
whole_part s p x y =
    let a = var s in
    let b = var p in
    let c = var x in
    let d = var y in
    same (ring.times (lit 536870912) (ring.minus (ring.times (lit 16384) a) (ring.times (lit 64) b)))
    (ring.plus (ring.minus c (ring.times (lit 34359738368) b))
    (ring.plus (ring.minus (ring.times (lit 2147483648) d) c) (ring.times (lit 2147483648) (ring.minus (ring.times (lit 4096) a) d)))) (omega arith)

whole_is : (s p x y : Cpx) →
    multiple (2 ^ 29) (minus (in_parts s) (multiple 64 p))
    ≡ plus (minus x (multiple (2 ^ 35) p)) (plus (minus (multiple (2 ^ 31) y) x) (multiple (2 ^ 31) (minus (multiple (2 ^ 12) s) y)))
whole_is s p x y = pair (whole_part s.re p.re x.re y.re) (whole_part s.im p.im x.im y.im)

-- the demodulated errors, by their energy
errors-small : (samples wave : ℕ → Cpx) (k : ℕ) → square (spectrum_at (errors samples wave) k) ≤ 2 ^ 7 * energy_below 128 (errors samples wave) * (16385 * 16385)
errors-small samples wave k =
    let shifted : ℕ → Cpx = λ n. multiple (2 ^ 17) (samples n) in
    let same_errors : off_by shifted wave ≡ errors samples wave = fun_ext (λ (n : ℕ). ap (λ (z : Cpx). minus z (wave n)) (multiple_twice 16384 (2 ^ 17) (samples n))) in
    let causes = three_causes wave shifted (record { re = pos 0; im = pos 0 }) k in
    down (square (spectrum_at (errors samples wave) k)) (energy_below 128 (errors samples wave))
    (subst (λ (f : ℕ → Cpx). 2 ^ 17 * 2 ^ 17 * square (spectrum_at f k) ≤ 2 ^ 41 * energy_below 128 f * (16385 * 16385)) same_errors
    (subst (λ (n : ℕ). n ≤ 2 ^ 41 * energy_below 128 (off_by shifted wave) * (16385 * 16385))
    (ap (λ (z : Cpx). square z) causes.errors_is ∙ square-multiple (2 ^ 17) (spectrum_at (off_by shifted wave) k)) causes.errors_small))
  where
    down : (s e : ℕ) → 2 ^ 17 * 2 ^ 17 * s ≤ 2 ^ 41 * e * (16385 * 16385) → s ≤ 2 ^ 7 * e * (16385 * 16385)
    down s e h = omega (arith, h)

-- ---- the bound

-- For several ports, with error energy at most `quota` times the gains' summed squares: `leak` units for the leakage,
-- `units` for the errors and 3 for the rounding are at most four times `most`.
record AreUnits (ports quota most leak units : ℕ) : Type 0 where
  leaks : ports * (98 * 98) ≤ leak * leak
  errs : 2 ^ 41 * quota * (16385 * 16385) ≤ (units * 2 ^ 27) * (units * 2 ^ 27)
  all : leak + (units + 3) ≤ 4 * most

module _ (ports quota most leak units : ℕ) (are : AreUnits ports quota most leak units) where
  leaking : (n s : ℕ) → s ≤ n * (ports * ((98 * 2 ^ 27) * (98 * 2 ^ 27))) → s ≤ (leak * 2 ^ 27) * (leak * 2 ^ 27) * n
  leaking n s h = let k : n * (ports * (98 * 98)) ≤ n * (leak * leak) = mul-le-mul_left n are.leaks in omega (arith, h, k)

  erring : (n e s : ℕ) → e ≤ 2 ^ 34 * (quota * n) → s ≤ 2 ^ 7 * e * (16385 * 16385) → s ≤ (units * 2 ^ 27) * (units * 2 ^ 27) * n
  erring n e s few h = let k : 2 ^ 41 * quota * (16385 * 16385) * n ≤ (units * 2 ^ 27) * (units * 2 ^ 27) * n = mul-le-mul_right n are.errs in omega (arith, few, h, k)

  rounding : (n s : ℕ) → 2 ^ 28 ≤ n → s ≤ 2 ^ 85 → s ≤ (3 * 2 ^ 27) * (3 * 2 ^ 27) * n
  rounding n s some h = omega (arith, some, h)

  fitting : (n s t : ℕ) → t ≡ 2 ^ 29 * 2 ^ 29 * s → t ≤ (leak * 2 ^ 27 + (units * 2 ^ 27 + 3 * 2 ^ 27)) * (leak * 2 ^ 27 + (units * 2 ^ 27 + 3 * 2 ^ 27)) * n → s ≤ most * most * n
  fitting n s t e h =
      let c : (leak + (units + 3)) * (leak + (units + 3)) ≤ (4 * most) * (4 * most) = mul-le-mul are.all are.all in
      let k : (leak + (units + 3)) * (leak + (units + 3)) * n ≤ (4 * most) * (4 * most) * n = mul-le-mul_right n c in
      omega (arith, e, h, k)

  seen_by_units : WaveformIsSeen ports quota most
  seen_by_units gains grids samples k amplitudes some few inside =
      let n : ℕ = energy_below ports gains in
      let wave : ℕ → Cpx = waveform ports gains grids in
      let amplitude : Cpx = received_of ports gains (λ p. grids p k) in
      let seen : Cpx = seen_in samples k in
      let causes = three_causes wave samples amplitude k in
      let a : Cpx = minus (spectrum_at wave k) (multiple (2 ^ 35) amplitude) in
      let e : Cpx = spectrum_at (errors samples wave) k in
      let r : Cpx = multiple (2 ^ 31) (minus (multiple (2 ^ 12) seen) (spectrum_at samples k)) in
      let d : Cpx = minus (in_parts seen) (multiple 64 amplitude) in
      let whole : multiple (2 ^ 29) d ≡ plus a (plus e r) =
      whole_is seen amplitude (spectrum_at wave k) (spectrum_at samples k) ∙ ap (λ (z : Cpx). plus a (plus z r)) (sym (errors_are samples wave k)) in
      let one : IsBounded (leak * 2 ^ 27) n a = record { bounded = leaking n (square a) (deviation-small ports gains grids k amplitudes inside) } in
      let two : IsBounded (units * 2 ^ 27) n e = record { bounded = erring n (energy_below 128 (errors samples wave)) (square e) few (errors-small samples wave k) } in
      let three : IsBounded (3 * 2 ^ 27) n r = record { bounded = rounding n (square r) some (subst (λ (z : Cpx). square z ≤ 2 ^ 85) causes.rounding_is causes.rounding_small) } in
      let both : IsBounded (leak * 2 ^ 27 + (units * 2 ^ 27 + 3 * 2 ^ 27)) n (plus a (plus e r)) =
      bounded-plus a (plus e r) (leak * 2 ^ 27) (units * 2 ^ 27 + 3 * 2 ^ 27) n one (bounded-plus e r (units * 2 ^ 27) (3 * 2 ^ 27) n two three) in
      record { off = fitting n (square d) (square (plus a (plus e r))) (ap (λ (z : Cpx). square z) (sym whole) ∙ square-multiple (2 ^ 29) d) both.bounded }

-- one port: 98 + 9151 + 3 is below 4 * 2316
pub waveform_of_one_is_seen : WaveformIsSeen 1 2555 2316
waveform_of_one_is_seen = seen_by_units 1 2555 2316 98 9151 (record { leaks = omega arith; errs = omega arith; all = omega arith })

-- two ports: 139 + 5702 + 3 is below 4 * 1464
pub waveform_of_two_is_seen : WaveformIsSeen 2 992 1464
waveform_of_two_is_seen = seen_by_units 2 992 1464 139 5702 (record { leaks = omega arith; errs = omega arith; all = omega arith })

-- four ports: 196 + 3387 + 3 is below 4 * 900
pub waveform_of_four_is_seen : WaveformIsSeen 4 350 900
waveform_of_four_is_seen = seen_by_units 4 350 900 196 3387 (record { leaks = omega arith; errs = omega arith; all = omega arith })

-- a synchronisation signal: 98 + 13180 + 3 is below 4 * 3340
pub waveform_of_signal_is_seen : WaveformIsSeen 1 5300 3340
waveform_of_signal_is_seen = seen_by_units 1 5300 3340 98 13180 (record { leaks = omega arith; errs = omega arith; all = omega arith })
