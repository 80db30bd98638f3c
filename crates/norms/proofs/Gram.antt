-- The Gram determinant of a scaled signal with errors: the gap in the Cauchy–Schwarz inequality.
use Rattle.std.proofs.Common.{◌≡◌, ℕ, zero, suc, ◌+◌, ◌*◌, ◌≤◌, ℤ, pos, ◌+ℤ◌, ◌*ℤ◌, refl, ap, ap₂, ◌∙◌, arith}
use Rattle.std.proofs.lemmas.Int.{ints}
use borrow.Author.Differences.{up, down}
use Rattle.finite.specs.Sums.{sum_below, total_below}
use Rattle.finite.proofs.Ring.{Is, var, lit, same}
use Rattle.finite.proofs.Ring as ring
use Rattle.cs_num.specs.declared.Cpx.{Cpx}
use Rattle.cs_num.specs.Complex.{nothing, plus, times, conjugate, square}
use Rattle.norms.specs.Magnitudes.{inner, real, energy_below, correlation_below}
use Rattle.norms.proofs.Squares.{times_conjugate, square-times, square-plus}
use Rattle.norms.proofs.Cauchy.{correlation_gain}

-- a signal's correlation with itself is its energy
pub correlation_self : (n : ℕ) (p : ℕ → Cpx) → correlation_below n p p ≡ real (energy_below n p)
unfolding sum_below total_below
correlation_self zero p = refl
correlation_self (suc n) p = ap₂ plus (correlation_self n p) (times_conjugate (p n))

inner_moves : (g p e : Cpx) → inner (times g p) e ≡ inner g (times e (conjugate p))
inner_moves g p e =
    let a = var g.re in
    let b = var g.im in
    let c = var p.re in
    let d = var p.im in
    let x = var e.re in
    let y = var e.im in
    same (ring.plus (ring.times (ring.minus (ring.times a c) (ring.times b d)) x) (ring.times (ring.plus (ring.times a d) (ring.times b c)) y))
    (ring.plus (ring.times a (ring.minus (ring.times x c) (ring.times y (ring.minus_one d)))) (ring.times b (ring.plus (ring.times x (ring.minus_one d)) (ring.times y c)))) (omega arith)

inner-plus : (g x y : Cpx) → inner g (plus x y) ≡ inner g x +ℤ inner g y
inner-plus g x y =
    let a = var g.re in
    let b = var g.im in
    let c = var x.re in
    let d = var x.im in
    let e = var y.re in
    let f = var y.im in
    same (ring.plus (ring.times a (ring.plus c e)) (ring.times b (ring.plus d f))) (ring.plus (ring.plus (ring.times a c) (ring.times b d)) (ring.plus (ring.times a e) (ring.times b f))) (omega arith)

inner_nothing : (g : Cpx) → inner g nothing ≡ pos 0
inner_nothing g =
    let a = var g.re in
    let b = var g.im in
    same (ring.plus (ring.times a (lit 0)) (ring.times b (lit 0))) (lit 0) (omega arith)

inner_real : (g x : Cpx) (m : ℕ) → inner (times g (real m)) x ≡ pos m *ℤ inner g x
inner_real g x m =
    let a = var g.re in
    let b = var g.im in
    let c = var x.re in
    let d = var x.im in
    let k = lit m in
    same (ring.plus (ring.times (ring.minus (ring.times a k) (ring.times b (lit 0))) c) (ring.times (ring.plus (ring.times a (lit 0)) (ring.times b k)) d))
    (ring.times k (ring.plus (ring.times a c) (ring.times b d))) (omega arith)

none : (g : ℕ) (i : ℤ) → i ≡ pos 0 → pos 0 ≡ pos (g * 0) +ℤ pos 0 +ℤ pos 2 *ℤ i
none g i e = omega (arith, ints, e)

one_more : (s p q x y z g : ℕ) (i j k m : ℤ) → pos s ≡ pos (g * p) +ℤ pos q +ℤ pos 2 *ℤ i → pos x ≡ pos y +ℤ pos z +ℤ pos 2 *ℤ k → (t : ℕ) → y ≡ g * t →
    k ≡ j → m ≡ i +ℤ j → pos (s + x) ≡ pos (g * (p + t)) +ℤ pos (q + z) +ℤ pos 2 *ℤ m
one_more s p q x y z g i j k m h l t e f o = omega (arith, ints)

-- a scaled signal's energy, with added errors
pub energy_with_errors : (n : ℕ) (g : Cpx) (p e : ℕ → Cpx) →
    pos (energy_below n (λ k. plus (times g (p k)) (e k))) ≡ pos (square g * energy_below n p) +ℤ pos (energy_below n e) +ℤ pos 2 *ℤ inner g (correlation_below n e p)
unfolding sum_below total_below
energy_with_errors zero g p e = none (square g) (inner g nothing) (inner_nothing g)
energy_with_errors (suc n) g p e =
    let c : Cpx = correlation_below n e p in
    let d : Cpx = times (e n) (conjugate (p n)) in
    one_more (energy_below n (λ k. plus (times g (p k)) (e k))) (energy_below n p) (energy_below n e) (square (plus (times g (p n)) (e n))) (square (times g (p n))) (square (e n)) (square g)
    (inner g c) (inner g d) (inner (times g (p n)) (e n)) (inner g (plus c d))
    (energy_with_errors n g p e) (square-plus (times g (p n)) (e n)) (square (p n)) (square-times g (p n)) (inner_moves g (p n) (e n)) (inner-plus g c d)

determinant : (x w k c e g : ℕ) (i : ℤ) → pos x ≡ pos (g * w) +ℤ pos e +ℤ pos 2 *ℤ i → pos c ≡ pos (g * (w * w)) +ℤ pos k +ℤ pos 2 *ℤ (pos w *ℤ i) → x * w + k ≡ c + w * e
determinant x w k c e g i h l =
    let a : x + 2 * down i ≡ g * w + e + 2 * up i = omega (arith, ints) in
    let b : c + 2 * (w * down i) ≡ g * (w * w) + k + 2 * (w * up i) = omega (arith, ints) in
    omega (arith, ap (λ (m : ℕ). m * w) a, b)

square_real : (m : ℕ) → square (real m) ≡ m * m
square_real m = omega arith

-- E(f) E(p) - |<f, p>|^2 stays the same if f = g p + e is replaced by e
pub gram : (n : ℕ) (g : Cpx) (p e : ℕ → Cpx) →
    energy_below n (λ k. plus (times g (p k)) (e k)) * energy_below n p + square (correlation_below n e p)
    ≡ square (correlation_below n (λ k. plus (times g (p k)) (e k)) p) + energy_below n p * energy_below n e
gram n g p e =
    let w : ℕ = energy_below n p in
    let c : Cpx = correlation_below n e p in
    let whole : correlation_below n (λ k. plus (times g (p k)) (e k)) p ≡ plus (times g (real w)) c =
    correlation_gain n g p e p ∙ ap (λ (z : Cpx). plus (times g z) c) (correlation_self n p) in
    let parts : pos (square (correlation_below n (λ k. plus (times g (p k)) (e k)) p)) ≡ pos (square g * (w * w)) +ℤ pos (square c) +ℤ pos 2 *ℤ (pos w *ℤ inner g c) =
    ap (λ (z : Cpx). pos (square z)) whole ∙ square-plus (times g (real w)) c
    ∙ ap₂ (λ (m : ℕ) (z : ℤ). pos m +ℤ pos (square c) +ℤ pos 2 *ℤ z) (square-times g (real w) ∙ ap (λ m. square g * m) (square_real w)) (inner_real g c w) in
    determinant (energy_below n (λ k. plus (times g (p k)) (e k))) w (square c) (square (correlation_below n (λ k. plus (times g (p k)) (e k)) p)) (energy_below n e) (square g) (inner g c)
    (energy_with_errors n g p e) parts

less : (a b c d : ℕ) → a + b ≡ c + d → a ≤ c + d
less a b c d e = omega (arith, e)

-- |<f, p>|^2 is at least E(f) E(p) - E(p) E(e)
pub gram_le : (n : ℕ) (g : Cpx) (p e : ℕ → Cpx) →
    energy_below n (λ k. plus (times g (p k)) (e k)) * energy_below n p
    ≤ square (correlation_below n (λ k. plus (times g (p k)) (e k)) p) + energy_below n p * energy_below n e
gram_le n g p e =
    less (energy_below n (λ k. plus (times g (p k)) (e k)) * energy_below n p) (square (correlation_below n e p))
    (square (correlation_below n (λ k. plus (times g (p k)) (e k)) p)) (energy_below n p * energy_below n e) (gram n g p e)
