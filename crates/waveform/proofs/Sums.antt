-- The sum received from several ports: its terms, and its magnitude by Cauchy's inequality.
use Rattle.std.proofs.Common.{◌≡◌, ℕ, zero, suc, ◌*◌, ◌<◌, ◌≤◌, arith, refl, ap, ap₂, subst, ◌∙◌, ℤ, pos, ◌+ℤ◌, ◌-ℤ◌, ◌*ℤ◌, mul-le-mul_left}
use Rattle.std.proofs.lemmas.Int.{ints}
use Rattle.finite.specs.Sums.{sum_below, total_below}
use Rattle.finite.proofs.Ring.{var, same}
use Rattle.finite.proofs.Ring as ring
use Rattle.finite.proofs.Sums.{total_below-within}
use Rattle.cs_num.specs.declared.Cpx.{Cpx}
use Rattle.cs_num.specs.Complex.{nothing, plus, times, conjugate, square, minus, multiple}
use Rattle.cs_num.proofs.Complex.{pair, plus-nothing}
use Rattle.cs_num.proofs.Sums.{complex_sum_below_same}
use Rattle.norms.specs.Magnitudes.{energy_below}
use Rattle.norms.proofs.Algebra.{plus-nothing_right, times-nothing, times-minus, times-multiple, conjugate_twice}
use Rattle.norms.proofs.Squares.{square-conjugate}
use Rattle.norms.proofs.Cauchy.{cauchy}
use Rattle.budget.specs.Received.{received_of}

-- ---- differences

apart_part : (n x y a b : ℤ) → (n *ℤ x -ℤ a) +ℤ (n *ℤ y -ℤ b) ≡ n *ℤ (x +ℤ y) -ℤ (a +ℤ b)
apart_part n x y a b =
    same (ring.plus (ring.minus (ring.times (var n) (var x)) (var a)) (ring.minus (ring.times (var n) (var y)) (var b)))
    (ring.minus (ring.times (var n) (ring.plus (var x) (var y))) (ring.plus (var a) (var b))) (omega arith)

apart : (n : ℕ) (x y a b : Cpx) → plus (minus (multiple n x) a) (minus (multiple n y) b) ≡ minus (multiple n (plus x y)) (plus a b)
apart n x y a b = pair (apart_part (pos n) x.re y.re a.re b.re) (apart_part (pos n) x.im y.im a.im b.im)

-- the sum of differences is the difference of the sums
pub received-minus : (ports n : ℕ) (gains x a : ℕ → Cpx) → received_of ports gains (λ p. minus (multiple n (x p)) (a p)) ≡ minus (multiple n (received_of ports gains x)) (received_of ports gains a)
unfolding sum_below
received-minus zero n gains x a = none n
  where
    none : (n : ℕ) → nothing ≡ minus (multiple n nothing) nothing
    none n = pair (nought n) (nought n)
      where
        nought : (n : ℕ) → pos 0 ≡ pos n *ℤ pos 0 -ℤ pos 0
        nought n = omega (arith, ints)
received-minus (suc m) n gains x a =
    ap₂ plus (received-minus m n gains x a) (times-minus (gains m) (multiple n (x m)) (a m) ∙ ap (λ (z : Cpx). minus z (times (gains m) (a m))) (times-multiple n (gains m) (x m)))
    ∙ apart n (received_of m gains x) (times (gains m) (x m)) (received_of m gains a) (times (gains m) (a m))

-- ---- magnitudes

-- a sum of numbers with squares of at most `bound`, each times a gain
pub received-small : (ports bound : ℕ) (gains x : ℕ → Cpx) → ((p : ℕ) → p < ports → square (x p) ≤ bound) → square (received_of ports gains x) ≤ energy_below ports gains * (ports * bound)
received-small ports bound gains x each =
    chain (square (received_of ports gains x)) (energy_below ports gains) (energy_below ports (λ p. conjugate (x p)))
    (subst (λ (z : Cpx). square z ≤ energy_below ports gains * energy_below ports (λ p. conjugate (x p)))
    (complex_sum_below_same ports (λ p. times (gains p) (conjugate (conjugate (x p)))) (λ p. times (gains p) (x p)) (λ p l. ap (times (gains p)) (conjugate_twice (x p))))
    (cauchy ports gains (λ p. conjugate (x p))))
    (total_below-within ports bound (λ p. square (conjugate (x p))) (λ p l. rw (square-conjugate (x p)) (each p l)))
  where
    chain : (s n e : ℕ) → s ≤ n * e → e ≤ ports * bound → s ≤ n * (ports * bound)
    chain s n e h few = let more : n * e ≤ n * (ports * bound) = mul-le-mul_left n few in omega (arith, h, more)

-- ---- one sender

-- if only port 0 sends something, only its term is left
pub received_from_first : (others : ℕ) (gains x : ℕ → Cpx) → ((p : ℕ) → p < others → x (suc p) ≡ nothing) → received_of (suc others) gains x ≡ received_of 1 gains (λ p. x 0)
unfolding sum_below
received_from_first zero gains x silent = refl
received_from_first (suc m) gains x silent =
    ap₂ plus (received_from_first m gains x (λ p l. silent p (omega (arith, l)))) (ap (times (gains (suc m))) (silent m (omega arith)) ∙ times-nothing (gains (suc m)))
    ∙ plus-nothing_right (received_of 1 gains (λ p. x 0))

-- the sum of one port
pub received_of_one : (gains x : ℕ → Cpx) → received_of 1 gains x ≡ times (gains 0) (x 0)
unfolding sum_below
received_of_one gains x = plus-nothing (times (gains 0) (x 0))

pub energy_of_one : (gains : ℕ → Cpx) → energy_below 1 gains ≡ square (gains 0)
unfolding total_below
energy_of_one gains = omega arith
