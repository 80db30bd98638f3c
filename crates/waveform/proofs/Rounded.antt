-- Errors relative to the waveform and errors relative to the rounded samples: they differ by the rounding, which has
-- little energy.
use Rattle.std.proofs.Common.{◌≡◌, ℕ, ◌+◌, ◌*◌, ◌^◌, ◌≤◌, arith, ap, sym, subst, ◌∙◌, ℤ, pos, ◌+ℤ◌, ◌-ℤ◌, ◌*ℤ◌, mul-le-mul_left}
use Rattle.std.proofs.Math.Path.{fun_ext}
use Rattle.finite.proofs.Ring.{var, lit, same}
use Rattle.finite.proofs.Ring as ring
use Rattle.finite.proofs.Sums.{total_below-within}
use Rattle.cs_num.specs.declared.Cpx.{Cpx}
use Rattle.cs_num.specs.Complex.{plus, square, minus, multiple}
use Rattle.cs_num.proofs.Complex.{pair, square-within, plus-commutes}
use Rattle.norms.specs.Magnitudes.{energy_below}
use Rattle.norms.proofs.Cauchy.{energy_weighted, energy_weighted_term}
use Rattle.fold128.specs.Symbol.{useful_at}
use Rattle.budget.specs.Received.{in_parts, off_by, received_of}
use Rattle.budget.specs.Budget.{unrounded}
use Rattle.budget.proofs.Causes.{sample_rounding_is_small}
use Rattle.budget.proofs.Parts.{energy_of_multiple}
use Rattle.waveform.specs.Waveform.{waveform, error_energy}
use Rattle.waveform.proofs.Sums.{received-minus, received-small}

-- one component: s is a sample, u the rounded sum, and w the waveform
parts : (s u w : ℤ) → pos 2147483648 *ℤ s -ℤ w ≡ pos 131072 *ℤ (pos 16384 *ℤ s -ℤ u) +ℤ (pos 131072 *ℤ u -ℤ w)
parts s u w =
    same (ring.minus (ring.times (lit 2147483648) (var s)) (var w))
    (ring.plus (ring.times (lit 131072) (ring.minus (ring.times (lit 16384) (var s)) (var u))) (ring.minus (ring.times (lit 131072) (var u)) (var w))) (omega arith)

parts_are : (s u w : Cpx) → minus (multiple (2 ^ 31) s) w ≡ plus (multiple (2 ^ 17) (minus (in_parts s) u)) (minus (multiple (2 ^ 17) u) w)
parts_are s u w = pair (parts s.re u.re w.re) (parts s.im u.im w.im)

module _ (ports : ℕ) (gains : ℕ → Cpx) (grids : ℕ → ℕ → Cpx) (samples : ℕ → Cpx) where
  -- the rounded sum of the ports
  abbrev rounded_sum : ℕ → Cpx
  rounded_sum n = received_of ports gains (λ p. useful_at (grids p) n)

  -- 2^17 times the errors relative to it
  abbrev rounded_off : ℕ → Cpx
  rounded_off n = multiple (2 ^ 17) (off_by samples rounded_sum n)

  -- the rounding of all ports' samples, each times its gain
  abbrev rounding : ℕ → Cpx
  rounding n = received_of ports gains (λ p. minus (multiple (2 ^ 17) (useful_at (grids p) n)) (unrounded (grids p) n))

  split : (n : ℕ) → minus (multiple (2 ^ 31) (samples n)) (waveform ports gains grids n) ≡ plus (rounded_off n) (rounding n)
  split n =
      parts_are (samples n) (rounded_sum n) (waveform ports gains grids n)
      ∙ ap (plus (rounded_off n)) (sym (received-minus ports (2 ^ 17) gains (λ p. useful_at (grids p) n) (λ p. unrounded (grids p) n)))

  -- the same with both parts exchanged
  turned : (n : ℕ) → minus (multiple (2 ^ 31) (samples n)) (waveform ports gains grids n) ≡ plus (rounding n) (rounded_off n)
  turned n = split n ∙ plus-commutes (rounded_off n) (rounding n)

  energies : error_energy ports gains grids samples ≡ energy_below 128 (λ n. plus (rounded_off n) (rounding n))
  energies = ap (energy_below 128) (fun_ext split)

  rounding-energy : energy_below 128 rounding ≤ 2 ^ 40 * (ports * energy_below ports gains)
  rounding-energy =
      all (energy_below ports gains) (energy_below 128 rounding)
      (total_below-within 128 (energy_below ports gains * (ports * (2 * (65536 * 65536)))) (λ n. square (rounding n))
      (λ n l. received-small ports (2 * (65536 * 65536)) gains (λ p. minus (multiple (2 ^ 17) (useful_at (grids p) n)) (unrounded (grids p) n))
      (λ p few. square-within (minus (multiple (2 ^ 17) (useful_at (grids p) n)) (unrounded (grids p) n)) 65536 (sample_rounding_is_small (grids p) n))))
    where
      all : (n s : ℕ) → s ≤ 128 * (n * (ports * (2 * (65536 * 65536)))) → s ≤ 2 ^ 40 * (ports * n)
      all n s h = omega (arith, h)

  -- errors relative to the rounded samples, from those relative to the waveform
  pub off_from_waveform : 2 ^ 34 * energy_below 128 (off_by samples rounded_sum) ≤ 2 * error_energy ports gains grids samples + 2 ^ 41 * (ports * energy_below ports gains)
  off_from_waveform =
      both (energy_below 128 (off_by samples rounded_sum)) (energy_below 128 rounded_off) (error_energy ports gains grids samples) (energy_below 128 (λ n. plus (rounded_off n) (rounding n))) (energy_below 128 rounding)
      (ports * energy_below ports gains) (energy_of_multiple (2 ^ 17) 128 (off_by samples rounded_sum)) energies (energy_weighted_term 1 128 rounded_off rounding) rounding-energy
    where
      both : (o q e f r n : ℕ) → q ≡ 2 ^ 17 * 2 ^ 17 * o → e ≡ f → 1 * q ≤ (1 + 1) * f + 1 * (1 + 1) * r → r ≤ 2 ^ 40 * n → 2 ^ 34 * o ≤ 2 * e + 2 ^ 41 * n
      both o q e f r n same all h few = omega (arith, same, all, h, few)

  -- errors relative to the waveform, from those relative to the rounded samples, with a weight of m
  pub waveform_from_off : (m : ℕ) →
      m * error_energy ports gains grids samples ≤ (m + 1) * (2 ^ 34 * energy_below 128 (off_by samples rounded_sum)) + m * (m + 1) * (2 ^ 40 * (ports * energy_below ports gains))
  waveform_from_off m =
      both (energy_below 128 (off_by samples rounded_sum)) (energy_below 128 rounded_off) (error_energy ports gains grids samples) (energy_below 128 (λ n. plus (rounded_off n) (rounding n))) (energy_below 128 rounding)
      (ports * energy_below ports gains) (energy_of_multiple (2 ^ 17) 128 (off_by samples rounded_sum)) energies (energy_weighted m 128 rounded_off rounding) rounding-energy
    where
      both : (o q e f r n : ℕ) → q ≡ 2 ^ 17 * 2 ^ 17 * o → e ≡ f → m * f ≤ (m + 1) * q + m * (m + 1) * r → r ≤ 2 ^ 40 * n → m * e ≤ (m + 1) * (2 ^ 34 * o) + m * (m + 1) * (2 ^ 40 * n)
      both o q e f r n same all h few =
          let k : m * (m + 1) * r ≤ m * (m + 1) * (2 ^ 40 * n) = mul-le-mul_left (m * (m + 1)) few in
          let scaled : (m + 1) * q ≡ (m + 1) * (2 ^ 34 * o) = ap (λ (x : ℕ). (m + 1) * x) (let e : q ≡ 2 ^ 34 * o = omega (arith, same) in e) in
          subst (λ (x : ℕ). m * x ≤ (m + 1) * (2 ^ 34 * o) + m * (m + 1) * (2 ^ 40 * n)) (sym all) (omega (arith, h, k, scaled))

  -- the same with a weight of m for the rounding
  pub waveform_from_rounding : (m : ℕ) →
      m * error_energy ports gains grids samples ≤ (m + 1) * (2 ^ 40 * (ports * energy_below ports gains)) + m * (m + 1) * (2 ^ 34 * energy_below 128 (off_by samples rounded_sum))
  waveform_from_rounding m =
      both (energy_below 128 (off_by samples rounded_sum)) (energy_below 128 rounded_off) (error_energy ports gains grids samples) (energy_below 128 (λ n. plus (rounding n) (rounded_off n))) (energy_below 128 rounding)
      (ports * energy_below ports gains) (energy_of_multiple (2 ^ 17) 128 (off_by samples rounded_sum)) (ap (energy_below 128) (fun_ext turned)) (energy_weighted m 128 rounding rounded_off) rounding-energy
    where
      both : (o q e f r n : ℕ) → q ≡ 2 ^ 17 * 2 ^ 17 * o → e ≡ f → m * f ≤ (m + 1) * r + m * (m + 1) * q → r ≤ 2 ^ 40 * n → m * e ≤ (m + 1) * (2 ^ 40 * n) + m * (m + 1) * (2 ^ 34 * o)
      both o q e f r n same all h few =
          let k : (m + 1) * r ≤ (m + 1) * (2 ^ 40 * n) = mul-le-mul_left (m + 1) few in
          let scaled : m * (m + 1) * q ≡ m * (m + 1) * (2 ^ 34 * o) = ap (λ (x : ℕ). m * (m + 1) * x) (let e : q ≡ 2 ^ 34 * o = omega (arith, same) in e) in
          subst (λ (x : ℕ). m * x ≤ (m + 1) * (2 ^ 40 * n) + m * (m + 1) * (2 ^ 34 * o)) (sym all) (omega (arith, h, k, scaled))
