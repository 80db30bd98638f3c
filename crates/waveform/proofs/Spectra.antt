-- The waveform of a symbol, demodulated: 2^35 times the received amplitudes, up to the leakage of each port.
use Rattle.std.proofs.Common.{◌≡◌, ℕ, zero, suc, ◌*◌, ◌^◌, ◌<◌, ◌≤◌, arith, ap, ap₂, sym, subst, ◌∙◌, ℤ, pos, ◌+ℤ◌, ◌-ℤ◌, ◌*ℤ◌}
use Rattle.finite.specs.Sums.{sum_below}
use Rattle.finite.proofs.Ring.{var, same}
use Rattle.finite.proofs.Ring as ring
use Rattle.cs_num.specs.declared.Cpx.{Cpx}
use Rattle.cs_num.specs.Complex.{nothing, plus, times, conjugate, square, minus, multiple}
use Rattle.cs_num.proofs.Complex.{pair, times-commutes}
use Rattle.norms.specs.Magnitudes.{energy_below}
use Rattle.norms.proofs.Algebra.{times-minus, times-multiple, times-nothing, sum_zero}
use Rattle.norms.proofs.Cauchy.{correlation_plus, correlation_times}
use Rattle.fold128.specs.Tables.{w_at}
use Rattle.fold128.specs.Symbol.{frequency}
use Rattle.fold128.specs.Spectrum.{spectrum_at}
use Rattle.budget.specs.Received.{AreAmplitudes, received_of}
use Rattle.budget.specs.Budget.{unrounded, leakage}
use Rattle.budget.proofs.Causes.{leakage_is_small}
use Rattle.waveform.specs.Waveform.{waveform}
use Rattle.waveform.proofs.Sums.{received-small}

-- ---- linearity

spectrum-none : (k : ℕ) → spectrum_at (λ n. nothing) k ≡ nothing
unfolding spectrum_at
spectrum-none k = sum_zero 128 (λ n. times nothing (conjugate (w_at (frequency k * n)))) (λ n l. times-commutes nothing (conjugate (w_at (frequency k * n))) ∙ times-nothing (conjugate (w_at (frequency k * n))))

spectrum-plus : (s t : ℕ → Cpx) (g : Cpx) (k : ℕ) → spectrum_at (λ n. plus (s n) (times g (t n))) k ≡ plus (spectrum_at s k) (times g (spectrum_at t k))
unfolding spectrum_at
spectrum-plus s t g k =
    correlation_plus 128 s (λ n. times g (t n)) (λ n. w_at (frequency k * n)) ∙ ap (plus (spectrum_at s k)) (correlation_times 128 g t (λ n. w_at (frequency k * n)))

parted_part : (n x y a b : ℤ) → (x +ℤ y) -ℤ n *ℤ (a +ℤ b) ≡ (x -ℤ n *ℤ a) +ℤ (y -ℤ n *ℤ b)
parted_part n x y a b =
    same (ring.minus (ring.plus (var x) (var y)) (ring.times (var n) (ring.plus (var a) (var b))))
    (ring.plus (ring.minus (var x) (ring.times (var n) (var a))) (ring.minus (var y) (ring.times (var n) (var b)))) (omega arith)

parted : (n : ℕ) (x y a b : Cpx) → minus (plus x y) (multiple n (plus a b)) ≡ plus (minus x (multiple n a)) (minus y (multiple n b))
parted n x y a b = pair (parted_part (pos n) x.re y.re a.re b.re) (parted_part (pos n) x.im y.im a.im b.im)

-- ---- the leakage of all ports

-- the deviation of the demodulated waveform is the sum of the ports' leakages, each times its gain
pub leakage_of_all : (ports : ℕ) (gains : ℕ → Cpx) (grids : ℕ → ℕ → Cpx) (k : ℕ) →
    minus (spectrum_at (waveform ports gains grids) k) (multiple (2 ^ 35) (received_of ports gains (λ p. grids p k))) ≡ received_of ports gains (λ p. leakage (grids p) k)
unfolding sum_below
leakage_of_all zero gains grids k = ap (λ (z : Cpx). minus z (multiple (2 ^ 35) nothing)) (spectrum-none k)
leakage_of_all (suc m) gains grids k =
    let g : Cpx = gains m in
    let y : Cpx = spectrum_at (unrounded (grids m)) k in
    let before : Cpx = received_of m gains (λ p. grids p k) in
    let here : Cpx = times g (grids m k) in
    ap (λ (z : Cpx). minus z (multiple (2 ^ 35) (plus before here))) (spectrum-plus (waveform m gains grids) (unrounded (grids m)) g k)
    ∙ parted (2 ^ 35) (spectrum_at (waveform m gains grids) k) (times g y) before here
    ∙ ap₂ plus (leakage_of_all m gains grids k) (ap (minus (times g y)) (sym (times-multiple (2 ^ 35) g (grids m k))) ∙ sym (times-minus g y (multiple (2 ^ 35) (grids m k))))

-- each port leaks less than 98 units of 2^27
leakage-small : (grid : ℕ → Cpx) (k : ℕ) → AreAmplitudes grid → k < 72 → square (leakage grid k) ≤ (98 * 2 ^ 27) * (98 * 2 ^ 27)
leakage-small grid k amplitudes inside = fits (square (leakage grid k)) (leakage_is_small grid k amplitudes inside)
  where
    fits : (s : ℕ) → 100 * s ≤ (61 * 2 ^ 31) * (61 * 2 ^ 31) → s ≤ (98 * 2 ^ 27) * (98 * 2 ^ 27)
    fits s h = omega (arith, h)

pub deviation-small : (ports : ℕ) (gains : ℕ → Cpx) (grids : ℕ → ℕ → Cpx) (k : ℕ) → ((p : ℕ) → p < ports → AreAmplitudes (grids p)) → k < 72 →
    square (minus (spectrum_at (waveform ports gains grids) k) (multiple (2 ^ 35) (received_of ports gains (λ p. grids p k)))) ≤ energy_below ports gains * (ports * ((98 * 2 ^ 27) * (98 * 2 ^ 27)))
deviation-small ports gains grids k amplitudes inside =
    subst (λ (z : Cpx). square z ≤ energy_below ports gains * (ports * ((98 * 2 ^ 27) * (98 * 2 ^ 27)))) (sym (leakage_of_all ports gains grids k))
    (received-small ports ((98 * 2 ^ 27) * (98 * 2 ^ 27)) gains (λ p. leakage (grids p) k) (λ p l. leakage-small (grids p) k (amplitudes p l) inside))
