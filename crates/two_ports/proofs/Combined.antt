-- Combining two received symbols with two channels: the combination is additive, satisfies Cauchy's inequality and,
-- with the gains as channels, separates a pair's two amplitudes.
use Rattle.std.proofs.Common.{◌≡◌, ℕ, ◌+◌, ◌*◌, ◌≤◌, ℤ, pos, negsuc, ◌+ℤ◌, ◌-ℤ◌, ◌*ℤ◌, neg_ℤ, nat_abs, refl, ap, ap₂, sym, ◌∙◌, arith}
use Rattle.std.proofs.lemmas.Int.{ints}
use Rattle.finite.proofs.Ring.{Is, var, lit, same}
use Rattle.finite.proofs.Ring as ring
use Rattle.cs_num.specs.declared.Cpx.{Cpx}
use Rattle.cs_num.specs.Complex.{nothing, plus, times, conjugate, negated, minus, multiple, square}
use Rattle.cs_num.proofs.Complex.{pair, plus-commutes, times-plus, times-commutes, times-plus_left}
use Rattle.norms.specs.Magnitudes.{inner, real}
use Rattle.norms.proofs.Algebra.{plus-nothing_right, plus-exchanges, times-associates, times-minus, conjugate-times, conjugate-plus, conjugate_twice, conjugate-multiple, multiple-plus, times-multiple, multiple-times, multiple_sum, times_real}
use Rattle.norms.proofs.Squares.{times_conjugate, square-times, square-conjugate, square-plus}
use Rattle.norms.proofs.TwoTerms.{two_term_cauchy}
use Rattle.norms.proofs.Products.{turned_back}
use Rattle.soft_bits.specs.Pairs.{first_point}

-- combining two received symbols with two ports' channels
abbrev pub combined : Cpx → Cpx → Cpx → Cpx → Cpx
combined h k a b = first_point h k a b

-- ---- sums and multiples

pub combined-plus_right : (h k a b e f : Cpx) → combined h k (plus a e) (plus b f) ≡ plus (combined h k a b) (combined h k e f)
combined-plus_right h k a b e f =
    ap₂ plus (times-plus (conjugate h) a e) (ap (times k) (conjugate-plus b f) ∙ times-plus k (conjugate b) (conjugate f))
    ∙ plus-exchanges (times (conjugate h) a) (times (conjugate h) e) (times k (conjugate b)) (times k (conjugate f))

pub combined-plus_left : (h k d e a b : Cpx) → combined (plus h d) (plus k e) a b ≡ plus (combined h k a b) (combined d e a b)
combined-plus_left h k d e a b =
    ap₂ plus (ap (λ (z : Cpx). times z a) (conjugate-plus h d) ∙ times-plus_left (conjugate h) (conjugate d) a) (times-plus_left k e (conjugate b))
    ∙ plus-exchanges (times (conjugate h) a) (times (conjugate d) a) (times k (conjugate b)) (times e (conjugate b))

pub combined-multiple_left : (m : ℕ) (h k a b : Cpx) → combined (multiple m h) (multiple m k) a b ≡ multiple m (combined h k a b)
combined-multiple_left m h k a b =
    ap₂ plus (ap (λ (z : Cpx). times z a) (conjugate-multiple m h) ∙ multiple-times m (conjugate h) a) (multiple-times m k (conjugate b))
    ∙ sym (multiple-plus m (times (conjugate h) a) (times k (conjugate b)))

pub combined-multiple_right : (m : ℕ) (h k a b : Cpx) → combined h k (multiple m a) (multiple m b) ≡ multiple m (combined h k a b)
combined-multiple_right m h k a b =
    ap₂ plus (times-multiple m (conjugate h) a) (ap (times k) (conjugate-multiple m b) ∙ times-multiple m k (conjugate b))
    ∙ sym (multiple-plus m (times (conjugate h) a) (times k (conjugate b)))

-- ---- Cauchy's inequality

same_le : (a b : ℕ) → a ≡ b → a ≤ b
same_le a b e = omega (arith, e)

pub combined_cauchy : (h k a b : Cpx) → square (combined h k a b) ≤ (square h + square k) * (square a + square b)
combined_cauchy h k a b =
    two_term_cauchy (times (conjugate h) a) (times k (conjugate b)) (square h) (square a) (square k) (square b)
    (same_le _ _ (square-times (conjugate h) a ∙ ap (λ s. s * square a) (square-conjugate h)))
    (same_le _ _ (square-times k (conjugate b) ∙ ap (λ s. square k * s) (square-conjugate b)))

-- ---- negatives: multiples by -1

abbrev one_less : Cpx
one_less = record { re = negsuc 0; im = pos 0 }

negative_part : (a b : ℤ) → (neg_ℤ a ≡ negsuc 0 *ℤ a -ℤ pos 0 *ℤ b) × (neg_ℤ b ≡ negsuc 0 *ℤ b +ℤ pos 0 *ℤ a)
negative_part a b = (omega (arith, ints), omega (arith, ints))

negated_is : (a : Cpx) → negated a ≡ times one_less a
negated_is a = let parts = negative_part a.re a.im in pair parts.0 parts.1

pub times-negated : (a b : Cpx) → times a (negated b) ≡ negated (times a b)
times-negated a b =
    ap (times a) (negated_is b) ∙ sym (times-associates a one_less b) ∙ ap (λ (z : Cpx). times z b) (times-commutes a one_less)
    ∙ times-associates one_less a b ∙ sym (negated_is (times a b))

pub multiple-negated : (n : ℕ) (a : Cpx) → multiple n (negated a) ≡ negated (multiple n a)
multiple-negated n a = ap (multiple n) (negated_is a) ∙ sym (times-multiple n one_less a) ∙ sym (negated_is (multiple n a))

none_left : (a : ℤ) → neg_ℤ a +ℤ a ≡ pos 0
none_left a = omega (arith, ints)

pub negated-plus : (a : Cpx) → plus (negated a) a ≡ nothing
negated-plus a = pair (none_left a.re) (none_left a.im)

abs-negative : (a : ℤ) → nat_abs (neg_ℤ a) ≡ nat_abs a
abs-negative a = omega (arith, ints)

pub square-negated : (a : Cpx) → square (negated a) ≡ square a
square-negated a = rw (abs-negative a.re, abs-negative a.im) refl

minus_part : (a b : ℤ) → a +ℤ neg_ℤ b ≡ a -ℤ b
minus_part a b = omega (arith, ints)

pub plus-negated : (a b : Cpx) → plus a (negated b) ≡ minus a b
plus-negated a b = pair (minus_part a.re b.re) (minus_part a.im b.im)

twice_part : (a : ℤ) → neg_ℤ (neg_ℤ a) ≡ a
twice_part a = omega (arith, ints)

negated_twice : (a : Cpx) → negated (negated a) ≡ a
negated_twice a = pair (twice_part a.re) (twice_part a.im)

-- negating, conjugating and negating again is conjugating
pub turned_twice : (a : Cpx) → negated (conjugate (negated a)) ≡ conjugate a
turned_twice a = pair (twice_part a.re) (ap neg_ℤ (twice_part a.im))

pub conjugate-negated : (a : Cpx) → conjugate (negated a) ≡ negated (conjugate a)
conjugate-negated a = pair refl refl

-- ---- a pair's two amplitudes

-- a pair's received symbols, in its two resource elements
abbrev pub at_first : Cpx → Cpx → Cpx → Cpx → Cpx
at_first g k x y = plus (times g x) (times k (negated (conjugate y)))

abbrev pub at_second : Cpx → Cpx → Cpx → Cpx → Cpx
at_second g k x y = plus (times g y) (times k (conjugate x))

turned_to : (k x : Cpx) → times k (conjugate (times k (conjugate x))) ≡ multiple (square k) x
turned_to k x =
    ap (times k) (conjugate-times k (conjugate x) ∙ ap (times (conjugate k)) (conjugate_twice x))
    ∙ sym (times-associates k (conjugate k) x) ∙ ap (λ (z : Cpx). times z x) (times_conjugate k) ∙ times-commutes (real (square k)) x ∙ times_real (square k) x

-- one port's signal cancels in the combination for the other's
crossed : (g k y : Cpx) → plus (times (conjugate g) (times k (negated (conjugate y)))) (times k (conjugate (times g y))) ≡ nothing
crossed g k y = ap₂ plus left right ∙ negated-plus (times (conjugate g) (times k (conjugate y)))
  where
    left : times (conjugate g) (times k (negated (conjugate y))) ≡ negated (times (conjugate g) (times k (conjugate y)))
    left = ap (times (conjugate g)) (times-negated k (conjugate y)) ∙ times-negated (conjugate g) (times k (conjugate y))

    right : times k (conjugate (times g y)) ≡ times (conjugate g) (times k (conjugate y))
    right =
        ap (times k) (conjugate-times g y) ∙ sym (times-associates k (conjugate g) (conjugate y))
        ∙ ap (λ (z : Cpx). times z (conjugate y)) (times-commutes k (conjugate g)) ∙ times-associates (conjugate g) k (conjugate y)

-- with the gains as channels, the combination is the pair's first amplitude times the gains' total square
pub combined_gains : (g k x y : Cpx) → combined g k (at_first g k x y) (at_second g k x y) ≡ multiple (square g + square k) x
combined_gains g k x y =
    ap₂ plus
    (times-plus (conjugate g) (times g x) (times k (negated (conjugate y))) ∙ ap (λ (z : Cpx). plus z b) (times-commutes (conjugate g) (times g x) ∙ turned_back g x))
    (ap (times k) (conjugate-plus (times g y) (times k (conjugate x))) ∙ times-plus k (conjugate (times g y)) (conjugate (times k (conjugate x))) ∙ ap (plus c) (turned_to k x) ∙ plus-commutes c (multiple (square k) x))
    ∙ plus-exchanges (multiple (square g) x) b (multiple (square k) x) c
    ∙ ap₂ plus (sym (multiple_sum (square g) (square k) x)) (crossed g k y) ∙ plus-nothing_right (multiple (square g + square k) x)
  where
    b : Cpx
    b = times (conjugate g) (times k (negated (conjugate y)))

    c : Cpx
    c = times k (conjugate (times g y))

-- the two resource elements' cross terms cancel
inners : (g k x y : Cpx) → inner (times g x) (times k (negated (conjugate y))) ≡ neg_ℤ (inner (times g y) (times k (conjugate x)))
inners g k x y =
    let a = var g.re in
    let b = var g.im in
    let c = var k.re in
    let d = var k.im in
    let p = var x.re in
    let q = var x.im in
    let r = var y.re in
    let s = var y.im in
    let t = ring.minus_one (ring.minus_one s) in
    same
    (ring.plus (ring.times (ring.minus (ring.times a p) (ring.times b q)) (ring.minus (ring.times c (ring.minus_one r)) (ring.times d t))) (ring.times (ring.plus (ring.times a q) (ring.times b p)) (ring.plus (ring.times c t) (ring.times d (ring.minus_one r)))))
    (ring.minus_one (ring.plus (ring.times (ring.minus (ring.times a r) (ring.times b s)) (ring.minus (ring.times c p) (ring.times d (ring.minus_one q)))) (ring.times (ring.plus (ring.times a s) (ring.times b r)) (ring.plus (ring.times c (ring.minus_one q)) (ring.times d p)))))
    (omega arith)

-- the energy received for a pair is the pair's energy times the gains' total square
pub pair_energy : (g k x y : Cpx) → square (at_first g k x y) + square (at_second g k x y) ≡ (square g + square k) * (square x + square y)
pair_energy g k x y =
    sums (square (at_first g k x y)) (square (at_second g k x y)) (square (times g x)) (square (times k (negated (conjugate y)))) (square (times g y)) (square (times k (conjugate x)))
    (inner (times g x) (times k (negated (conjugate y)))) (inner (times g y) (times k (conjugate x)))
    (square-plus (times g x) (times k (negated (conjugate y)))) (square-plus (times g y) (times k (conjugate x))) (inners g k x y)
    ∙ products (square g) (square k) (square x) (square y) _ _ _ _ (square-times g x)
    (square-times k (negated (conjugate y)) ∙ ap (λ s. square k * s) (square-negated (conjugate y) ∙ square-conjugate y)) (square-times g y)
    (square-times k (conjugate x) ∙ ap (λ s. square k * s) (square-conjugate x))
  where
    sums : (s t a b c d : ℕ) (i j : ℤ) → pos s ≡ pos a +ℤ pos b +ℤ pos 2 *ℤ i → pos t ≡ pos c +ℤ pos d +ℤ pos 2 *ℤ j → i ≡ neg_ℤ j → s + t ≡ a + b + (c + d)
    sums s t a b c d i j p q e = omega (arith, ints)

    products : (g k x y a b c d : ℕ) → a ≡ g * x → b ≡ k * y → c ≡ g * y → d ≡ k * x → a + b + (c + d) ≡ (g + k) * (x + y)
    products g k x y a b c d p q r s = omega (arith, p, q, r, s)

-- the deviation of negated numbers is the negated deviation
pub minus-negated : (g k x c a : Cpx) → minus (negated a) (multiple 64 (plus (times g (negated x)) (times k c))) ≡ negated (minus a (multiple 64 (plus (times g x) (times k (negated c)))))
minus-negated g k x c a =
    ap₂ (λ (u v : Cpx). minus u (multiple 64 v)) (negated_is a)
    (ap₂ plus (times-negated g x ∙ negated_is (times g x)) (ap (times k) (sym (negated_twice c)) ∙ times-negated k (negated c) ∙ negated_is (times k (negated c))) ∙ sym (times-plus one_less (times g x) (times k (negated c))))
    ∙ ap (minus (times one_less a)) (sym (times-multiple 64 one_less (plus (times g x) (times k (negated c)))))
    ∙ sym (times-minus one_less a (multiple 64 (plus (times g x) (times k (negated c))))) ∙ sym (negated_is (minus a (multiple 64 (plus (times g x) (times k (negated c))))))
