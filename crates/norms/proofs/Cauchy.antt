-- The Cauchy–Schwarz inequality for finite sums, and weighted bounds on energies.
use Rattle.std.proofs.Common.{sym, ◌≡◌, ℕ, zero, suc, ◌+◌, ◌*◌, ◌<◌, ◌≤◌, ◌⊎◌, inl, inr, refl, ap, ap₂, ◌∙◌, arith}
use Rattle.finite.specs.Sums.{sum_below, total_below}
use Rattle.finite.proofs.Sums.{total_below_same, total_below_split}
use Rattle.cs_num.specs.declared.Cpx.{Cpx}
use Rattle.cs_num.specs.Complex.{plus, times, conjugate, square, multiple}
use Rattle.cs_num.proofs.Complex.{times-commutes, times-plus_left}
use Rattle.cs_num.proofs.Sums.{complex_sum_below_same, complex_sum_below_plus, complex_sum_below_split}
use Rattle.norms.specs.Magnitudes.{energy_below, correlation_below}
use Rattle.norms.proofs.Algebra.{conjugate-plus, conjugate-times, conjugate_twice, sum-times, sum-multiple, times-associates, multiple-times}
use Rattle.norms.proofs.Squares.{square-times, square-conjugate}
use Rattle.norms.proofs.TwoTerms.{two_term_cauchy, weighted, weighted_term}

same_le : (a b : ℕ) → a ≡ b → a ≤ b
same_le a b e = omega (arith, e)

-- |f 0 conj (g 0) + ..|^2 ≤ (|f 0|^2 + ..) (|g 0|^2 + ..)
pub cauchy : (n : ℕ) (f g : ℕ → Cpx) → square (correlation_below n f g) ≤ energy_below n f * energy_below n g
unfolding sum_below total_below
cauchy zero f g = omega arith
cauchy (suc n) f g =
    two_term_cauchy (correlation_below n f g) (times (f n) (conjugate (g n))) (energy_below n f) (energy_below n g) (square (f n)) (square (g n)) (cauchy n f g)
    (same_le _ _ (square-times (f n) (conjugate (g n)) ∙ ap (λ s. square (f n) * s) (square-conjugate (g n))))

-- ---- energies

pub energy_same : (n : ℕ) (f g : ℕ → Cpx) → ((k : ℕ) → k < n → f k ≡ g k) → energy_below n f ≡ energy_below n g
energy_same n f g h = total_below_same n (λ k. square (f k)) (λ k. square (g k)) (λ k l. ap (λ (z : Cpx). square z) (h k l))

pub energy_split : (n m : ℕ) (f : ℕ → Cpx) → energy_below (n + m) f ≡ energy_below n f + energy_below m (λ k. f (n + k))
energy_split n m f = total_below_split n m (λ k. square (f k))

sums_weighted : (m a b c x y z : ℕ) → m * a ≤ (m + 1) * b + m * (m + 1) * c → m * x ≤ (m + 1) * y + m * (m + 1) * z →
    m * (a + x) ≤ (m + 1) * (b + y) + m * (m + 1) * (c + z)
sums_weighted m a b c x y z h k = omega (arith, h, k)

-- m E(f + g) ≤ (m + 1) E(f) + m (m + 1) E(g)
pub energy_weighted : (m n : ℕ) (f g : ℕ → Cpx) → m * energy_below n (λ k. plus (f k) (g k)) ≤ (m + 1) * energy_below n f + m * (m + 1) * energy_below n g
unfolding total_below
energy_weighted m zero f g = omega arith
energy_weighted m (suc n) f g =
    sums_weighted m (energy_below n (λ k. plus (f k) (g k))) (energy_below n f) (energy_below n g) (square (plus (f n) (g n))) (square (f n)) (square (g n))
    (energy_weighted m n f g) (weighted m (f n) (g n))

-- m E(f) ≤ (m + 1) E(f + g) + m (m + 1) E(g)
pub energy_weighted_term : (m n : ℕ) (f g : ℕ → Cpx) → m * energy_below n f ≤ (m + 1) * energy_below n (λ k. plus (f k) (g k)) + m * (m + 1) * energy_below n g
unfolding total_below
energy_weighted_term m zero f g = omega arith
energy_weighted_term m (suc n) f g =
    sums_weighted m (energy_below n f) (energy_below n (λ k. plus (f k) (g k))) (energy_below n g) (square (f n)) (square (plus (f n) (g n))) (square (g n))
    (energy_weighted_term m n f g) (weighted_term m (f n) (g n))

factors : (g e : ℕ) (s : ℕ) → s ≡ g * e → (x y : ℕ) → x ≡ g * y → s + x ≡ g * (e + y)
factors g e s h x y k = omega (arith, h, k)

-- a gain scales an energy by its squared magnitude
pub energy_gain : (n : ℕ) (g : Cpx) (f : ℕ → Cpx) → energy_below n (λ k. times g (f k)) ≡ square g * energy_below n f
unfolding total_below
energy_gain zero g f = omega arith
energy_gain (suc n) g f =
    factors (square g) (energy_below n f) (energy_below n (λ k. times g (f k))) (energy_gain n g f) (square (times g (f n))) (square (f n)) (square-times g (f n))

-- the first n terms have at most the energy that the first m have, for n ≤ m
pub energy_part : (n m : ℕ) (f : ℕ → Cpx) → n ≤ m → energy_below n f ≤ energy_below m f
unfolding total_below
energy_part n zero f l = let e : n ≡ 0 = omega arith in rw e (omega arith)
energy_part n (suc m) f l = elim (cases n m) [
  | inl lower ↦ wider (energy_below n f) (energy_below m f) (square (f m)) (energy_part n m f lower)
  | inr here ↦ let e : n ≡ suc m = omega arith in rw e (same_le _ _ refl)
]
  where
    cases : (n m : ℕ) → (n ≤ m) ⊎ (m < n)
    cases n m = grind arith

    wider : (a b c : ℕ) → a ≤ b → a ≤ b + c
    wider a b c h = omega (arith, h)

-- ---- correlations

pub correlation_same : (n : ℕ) (f g p q : ℕ → Cpx) → ((k : ℕ) → k < n → f k ≡ g k) → ((k : ℕ) → k < n → p k ≡ q k) → correlation_below n f p ≡ correlation_below n g q
correlation_same n f g p q h j =
    complex_sum_below_same n (λ k. times (f k) (conjugate (p k))) (λ k. times (g k) (conjugate (q k))) (λ k l. ap₂ (λ (a b : Cpx). times a (conjugate b)) (h k l) (j k l))

pub correlation_split : (n m : ℕ) (f p : ℕ → Cpx) → correlation_below (n + m) f p ≡ plus (correlation_below n f p) (correlation_below m (λ k. f (n + k)) (λ k. p (n + k)))
correlation_split n m f p = complex_sum_below_split n m (λ k. times (f k) (conjugate (p k)))

-- correlation is additive in its first argument
pub correlation_plus : (n : ℕ) (f e p : ℕ → Cpx) → correlation_below n (λ k. plus (f k) (e k)) p ≡ plus (correlation_below n f p) (correlation_below n e p)
correlation_plus n f e p =
    complex_sum_below_same n (λ k. times (plus (f k) (e k)) (conjugate (p k))) (λ k. plus (times (f k) (conjugate (p k))) (times (e k) (conjugate (p k))))
    (λ k l. times-plus_left (f k) (e k) (conjugate (p k)))
    ∙ complex_sum_below_plus n (λ k. times (f k) (conjugate (p k))) (λ k. times (e k) (conjugate (p k)))

-- a gain factors out of a correlation
pub correlation_times : (n : ℕ) (g : Cpx) (f p : ℕ → Cpx) → correlation_below n (λ k. times g (f k)) p ≡ times g (correlation_below n f p)
correlation_times n g f p =
    complex_sum_below_same n (λ k. times (times g (f k)) (conjugate (p k))) (λ k. times g (times (f k) (conjugate (p k)))) (λ k l. times-associates g (f k) (conjugate (p k)))
    ∙ sum-times n g (λ k. times (f k) (conjugate (p k)))

-- an integer factors out of a correlation
pub correlation_multiple : (n m : ℕ) (f p : ℕ → Cpx) → correlation_below n (λ k. multiple m (f k)) p ≡ multiple m (correlation_below n f p)
correlation_multiple n m f p =
    complex_sum_below_same n (λ k. times (multiple m (f k)) (conjugate (p k))) (λ k. multiple m (times (f k) (conjugate (p k)))) (λ k l. multiple-times m (f k) (conjugate (p k)))
    ∙ sum-multiple n m (λ k. times (f k) (conjugate (p k)))

-- a scaled signal's correlation, with added errors
pub correlation_gain : (n : ℕ) (g : Cpx) (f e p : ℕ → Cpx) →
    correlation_below n (λ k. plus (times g (f k)) (e k)) p ≡ plus (times g (correlation_below n f p)) (correlation_below n e p)
correlation_gain n g f e p = correlation_plus n (λ k. times g (f k)) e p ∙ ap (λ (z : Cpx). plus z (correlation_below n e p)) (correlation_times n g f p)

back_and_forth : (f p : Cpx) → conjugate (times p (conjugate f)) ≡ times f (conjugate p)
back_and_forth f p = conjugate-times p (conjugate f) ∙ ap (times (conjugate p)) (conjugate_twice f) ∙ times-commutes (conjugate p) f

-- exchanging the arguments conjugates a correlation
pub correlation_swap : (n : ℕ) (f p : ℕ → Cpx) → correlation_below n f p ≡ conjugate (correlation_below n p f)
unfolding sum_below
correlation_swap zero f p = refl
correlation_swap (suc n) f p =
    ap₂ plus (correlation_swap n f p) (sym (back_and_forth (f n) (p n))) ∙ sym (conjugate-plus (correlation_below n p f) (times (p n) (conjugate (f n))))
