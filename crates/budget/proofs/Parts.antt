-- Values in parts: their laws, and errors by component.
use Rattle.std.proofs.Common.{◌≡◌, ℕ, zero, suc, ◌+◌, ◌*◌, ◌^◌, ◌≤◌, arith, ap, sym, ◌∙◌, ℤ, pos, ◌-ℤ◌, ◌*ℤ◌, mul-le-mul_right}
use Rattle.finite.specs.Sums.{total_below}
use Rattle.cs_num.specs.declared.Cpx.{Cpx}
use Rattle.cs_num.specs.Complex.{times, conjugate, square, minus, multiple}
use Rattle.cs_num.proofs.Complex.{pair, square-within}
use Rattle.finite.proofs.Ring.{var, same}
use Rattle.finite.proofs.Ring as ring
use Rattle.finite.proofs.Sums.{total_below-within}
use Rattle.norms.specs.Magnitudes.{energy_below}
use Rattle.norms.proofs.Algebra.{conjugate-multiple, times-multiple, multiple-times, multiple_twice}
use Rattle.norms.proofs.Squares.{square-multiple}
use Rattle.norms.proofs.Cauchy.{energy_same}
use Rattle.fold128.specs.Symbol.{useful_at}
use Rattle.budget.specs.Received.{in_parts, off_by}
use Rattle.budget.specs.Budget.{ErrorsHaveEnergy, WholeGainIsReceived, IsReceivedByMore}

-- ---- products, and sums of squares

pub multiple-swaps : (m n : ℕ) (z : Cpx) → multiple m (multiple n z) ≡ multiple n (multiple m z)
multiple-swaps m n z = multiple_twice m n z ∙ ap (λ (k : ℕ). multiple k z) (let e : m * n ≡ n * m = omega arith in e) ∙ sym (multiple_twice n m z)

pub product-multiples : (m n : ℕ) (x y : Cpx) → times (multiple m x) (conjugate (multiple n y)) ≡ multiple (m * n) (times x (conjugate y))
product-multiples m n x y =
    ap (times (multiple m x)) (conjugate-multiple n y) ∙ times-multiple n (multiple m x) (conjugate y) ∙ ap (multiple n) (multiple-times m x (conjugate y))
    ∙ multiple-swaps n m (times x (conjugate y)) ∙ multiple_twice m n (times x (conjugate y))

-- 16384 is 2^14, and its square 2^28
pub product_in_parts : (x y : Cpx) → times (in_parts x) (conjugate (in_parts y)) ≡ multiple 268435456 (times x (conjugate y))
product_in_parts x y = product-multiples 16384 16384 x y

pub square_in_parts : (z : Cpx) → square (in_parts z) ≡ 268435456 * square z
square_in_parts z = square-multiple 16384 z

pub energy_of_multiple : (m n : ℕ) (f : ℕ → Cpx) → energy_below n (λ k. multiple m (f k)) ≡ m * m * energy_below n f
unfolding total_below
energy_of_multiple m zero f = omega arith
energy_of_multiple m (suc n) f =
    more (m * m) (energy_below n (λ k. multiple m (f k))) (energy_below n f) (square (multiple m (f n))) (square (f n)) (energy_of_multiple m n f) (square-multiple m (f n))
  where
    more : (q s e x y : ℕ) → s ≡ q * e → x ≡ q * y → s + x ≡ q * (e + y)
    more q s e x y h k = omega (arith, h, k)

pub energy_in_parts : (n : ℕ) (f : ℕ → Cpx) → energy_below n (λ k. in_parts (f k)) ≡ 268435456 * energy_below n f
energy_in_parts n f = energy_of_multiple 16384 n f

-- ---- errors by component

less_part : (n a b : ℤ) → n *ℤ a -ℤ n *ℤ b ≡ n *ℤ (a -ℤ b)
less_part n a b = same (ring.minus (ring.times (var n) (var a)) (ring.times (var n) (var b))) (ring.times (var n) (ring.minus (var a) (var b))) (omega arith)

pub minus_in_parts : (x y : Cpx) → minus (in_parts x) (in_parts y) ≡ in_parts (minus x y)
minus_in_parts x y = pair (less_part (pos 16384) x.re y.re) (less_part (pos 16384) x.im y.im)

pub errors_have_energy : ErrorsHaveEnergy
errors_have_energy eps values samples near =
    sums eps (energy_below 128 (λ n. minus (samples n) (values n))) (energy_below 128 (off_by samples (λ n. in_parts (values n))))
    (energy_same 128 (off_by samples (λ n. in_parts (values n))) (λ n. in_parts (minus (samples n) (values n))) (λ n l. minus_in_parts (samples n) (values n))
    ∙ energy_in_parts 128 (λ n. minus (samples n) (values n)))
    (total_below-within 128 (2 * (eps * eps)) (λ n. square (minus (samples n) (values n))) (λ n l. square-within (minus (samples n) (values n)) eps (near n l)))
  where
    sums : (eps e s : ℕ) → s ≡ 268435456 * e → e ≤ 128 * (2 * (eps * eps)) → s ≤ 2 ^ 36 * (eps * eps)
    sums eps e s same h = omega (arith, same, h)

pub whole_gain_is_received : WholeGainIsReceived
whole_gain_is_received eps gain grid samples some quiet near = record {
  sounds = sounds (square gain) (square (in_parts gain)) (square_in_parts gain) some;
  quiet = few eps (square gain) (square (in_parts gain)) (energy_below 128 (off_by samples (λ n. times (in_parts gain) (useful_at grid n))))
      (energy_below 128 (off_by samples (λ n. in_parts (times gain (useful_at grid n))))) (square_in_parts gain)
      (energy_same 128 (off_by samples (λ n. times (in_parts gain) (useful_at grid n))) (off_by samples (λ n. in_parts (times gain (useful_at grid n))))
      (λ n l. ap (minus (in_parts (samples n))) (multiple-times 16384 gain (useful_at grid n))))
      (errors_have_energy eps (λ n. times gain (useful_at grid n)) samples near) quiet;
}
  where
    sounds : (n m : ℕ) → m ≡ 268435456 * n → 1 ≤ n → 2 ^ 28 ≤ m
    sounds n m same some = omega (arith, same, some)

    few : (eps n m s e : ℕ) → m ≡ 268435456 * n → s ≡ e → e ≤ 2 ^ 36 * (eps * eps) → eps * eps ≤ 4 * n → s ≤ 1024 * m
    few eps n m s e same all h quiet = omega (arith, same, all, h, quiet)

pub is_received_by_more : IsReceivedByMore
is_received_by_more quota more gain grid samples l received = record {
  sounds = received.sounds;
  quiet = wider (square gain) (energy_below 128 (off_by samples (λ n. times gain (useful_at grid n)))) received.quiet;
}
  where
    wider : (n e : ℕ) → e ≤ quota * n → e ≤ more * n
    wider n e h = let k : quota * n ≤ more * n = mul-le-mul_right n l in omega (arith, h, k)
