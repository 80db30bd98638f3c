-- Correlations are sums of dot products, roots 29 and 34 share them, and the energy slides.
use Rattle.std.proofs.Common.{◌≡◌, ℕ, ◌+◌, ◌-◌, ◌<◌, ◌≤◌, arith, refl, ap, ap₂, sym, subst, ◌∙◌, List, ℤ, pos, ◌+ℤ◌, ◌-ℤ◌, ◌*ℤ◌, neg_ℤ}
use Rattle.std.proofs.lemmas.Int.{ints}
use Rattle.finite.specs.Sums.{sum_below, total_below}
use Rattle.finite.specs.Lists.{values_below}
use Rattle.finite.proofs.Lists.{values_below_at}
use Rattle.finite.proofs.Sums.{sum_below_same, sum_below_plus, sum_below_minus, total_below-within, total_below-term, total_below_slides}
use Rattle.finite.proofs.Ring.{Is, var, lit, same}
use Rattle.finite.proofs.Ring as ring
use Rattle.cs_num.specs.declared.Cpx.{Cpx}
use Rattle.cs_num.specs.declared.Sample.{Sample}
use Rattle.cs_num.specs.Complex.{plus, minus, times, times_j, conjugate, square, sample_at}
use Rattle.cs_num.specs.Sums.{complex_sum_below}
use Rattle.cs_num.proofs.Complex.{pair}
use Rattle.cs_num.proofs.Sums.{complex_sum_below_same, complex_sum_below_split, complex_sum_below_one}
use Rattle.pss_search.specs.Correlation.{wave, peak_term, energy, energy_term}
use Rattle.pss_search.specs.declared.products.Stretch.{Stretch}
use Rattle.pss_search.specs.declared.products.ProductSums.{ProductSums}
use Rattle.pss_search.specs.Products.{IsStretchOf, product_at, dot_of, products_of, with_conjugate_of, with_signal_of, wave_re, wave_im, correlation_at}
use Rattle.pss_search.proofs.Symmetry.{unit, conjugate_between, conjugate_after, conjugate_first, conjugate_middle}

-- ---- a sum over 128 samples

by_ends : (g : ℕ → Cpx) → complex_sum_below 128 g
    ≡ plus (g 0) (plus (complex_sum_below 63 (λ k. g (1 + k))) (plus (g 64) (complex_sum_below 63 (λ k. g (65 + k)))))
by_ends g =
    complex_sum_below_split 1 127 g
    ∙ ap₂ plus (complex_sum_below_one g)
    (complex_sum_below_split 63 64 (λ k. g (1 + k))
    ∙ ap (plus (complex_sum_below 63 (λ k. g (1 + k))))
    (complex_sum_below_split 1 63 (λ k. g (1 + (63 + k)))
    ∙ ap₂ plus (complex_sum_below_one (λ k. g (1 + (63 + k))))
    (complex_sum_below_same 63 (λ k. g (1 + (63 + (1 + k)))) (λ k. g (65 + k)) (λ k l. ap g (omega arith)))))

-- ---- roots 29 and 34

-- r conj (conj p + j) is r p - j r
alone_re : (a b c d : ℤ) → a *ℤ (c +ℤ pos 0) -ℤ b *ℤ neg_ℤ (neg_ℤ d +ℤ pos 1) ≡ a *ℤ c -ℤ b *ℤ d -ℤ neg_ℤ b
alone_re a b c d =
    same (ring.minus (ring.times (var a) (ring.plus (var c) (lit 0))) (ring.times (var b) (ring.minus_one (ring.plus (ring.minus_one (var d)) (lit 1)))))
    (ring.minus (ring.minus (ring.times (var a) (var c)) (ring.times (var b) (var d))) (ring.minus_one (var b))) (omega arith)

alone_im : (a b c d : ℤ) → a *ℤ neg_ℤ (neg_ℤ d +ℤ pos 1) +ℤ b *ℤ (c +ℤ pos 0) ≡ a *ℤ d +ℤ b *ℤ c -ℤ a
alone_im a b c d =
    same (ring.plus (ring.times (var a) (ring.minus_one (ring.plus (ring.minus_one (var d)) (lit 1)))) (ring.times (var b) (ring.plus (var c) (lit 0))))
    (ring.minus (ring.plus (ring.times (var a) (var d)) (ring.times (var b) (var c))) (var a)) (omega arith)

alone : (r p q : Cpx) → q ≡ plus (conjugate p) unit → times r (conjugate q) ≡ minus (times r p) (times_j r)
alone r p q e = ap (λ (z : Cpx). times r (conjugate z)) e ∙ pair (alone_re r.re r.im p.re p.im) (alone_im r.re r.im p.re p.im)

back : (a : ℤ) → neg_ℤ (neg_ℤ a) ≡ a
back a = omega (arith, ints)

conjugate_back : (p q : Cpx) → q ≡ conjugate p → conjugate q ≡ p
conjugate_back p q e = ap (λ (z : Cpx). conjugate z) e ∙ pair refl (back p.im)

ends_re : (a x m b y n : ℤ) → a -ℤ neg_ℤ x +ℤ (m +ℤ (b -ℤ neg_ℤ y +ℤ n)) ≡ a +ℤ (m +ℤ (b +ℤ n)) -ℤ neg_ℤ (x +ℤ y)
ends_re a x m b y n = omega (arith, ints)

ends_im : (a x m b y n : ℤ) → a -ℤ x +ℤ (m +ℤ (b -ℤ y +ℤ n)) ≡ a +ℤ (m +ℤ (b +ℤ n)) -ℤ (x +ℤ y)
ends_im a x m b y n = omega (arith, ints)

ends : (a x m b y n : Cpx) → plus (minus a (times_j x)) (plus m (plus (minus b (times_j y)) n)) ≡ minus (plus a (plus m (plus b n))) (times_j (plus x y))
ends a x m b y n = pair (ends_re a.re x.im m.re b.re y.im n.re) (ends_im a.im x.re m.im b.im y.re n.im)

-- the correlation with root 34 is the sum of products with the signal of root 29 itself, corrected at two samples
pub roots_share : (recording : List Sample) (t : ℕ) → correlation_at recording t 2
    ≡ minus (complex_sum_below 128 (λ n. times (sample_at recording (t + n)) (wave 1 n))) (times_j (plus (sample_at recording t) (sample_at recording (t + 64))))
roots_share recording t =
    by_ends (peak_term (wave 2) recording t)
    ∙ ap₂ plus (alone (f 0) (wave 1 0) (wave 2 0) conjugate_first)
    (ap₂ plus (middle 1 (λ k l. conjugate_between (1 + k) (omega arith) (omega (arith, l))))
    (ap₂ plus (alone (f 64) (wave 1 64) (wave 2 64) conjugate_middle) (middle 65 (λ k l. conjugate_after (65 + k) (omega arith) (omega (arith, l))))))
    ∙ ends (times (f 0) (wave 1 0)) (f 0) (complex_sum_below 63 (λ k. times (f (1 + k)) (wave 1 (1 + k)))) (times (f 64) (wave 1 64)) (f 64)
    (complex_sum_below 63 (λ k. times (f (65 + k)) (wave 1 (65 + k))))
    ∙ ap₂ (λ s z. minus s (times_j z)) (sym (by_ends (λ n. times (f n) (wave 1 n))))
    (ap (λ i. plus (sample_at recording i) (f 64)) (let e : t + 0 ≡ t = omega arith in e))
  where
    f : ℕ → Cpx
    f n = sample_at recording (t + n)

    middle : (s : ℕ) → ((k : ℕ) → k < 63 → wave 2 (s + k) ≡ conjugate (wave 1 (s + k))) →
        complex_sum_below 63 (λ k. times (f (s + k)) (conjugate (wave 2 (s + k)))) ≡ complex_sum_below 63 (λ k. times (f (s + k)) (wave 1 (s + k)))
    middle s each =
        complex_sum_below_same 63 (λ k. times (f (s + k)) (conjugate (wave 2 (s + k)))) (λ k. times (f (s + k)) (wave 1 (s + k)))
        (λ k l. ap (times (f (s + k))) (conjugate_back (wave 1 (s + k)) (wave 2 (s + k)) (each k l)))

-- ---- four dot products

with_conjugate_re : (a b c d : ℤ) → a *ℤ c -ℤ b *ℤ neg_ℤ d ≡ a *ℤ c +ℤ b *ℤ d
with_conjugate_re a b c d = same (ring.minus (ring.times (var a) (var c)) (ring.times (var b) (ring.minus_one (var d)))) (ring.plus (ring.times (var a) (var c)) (ring.times (var b) (var d))) (omega arith)

with_conjugate_im : (a b c d : ℤ) → a *ℤ neg_ℤ d +ℤ b *ℤ c ≡ b *ℤ c -ℤ a *ℤ d
with_conjugate_im a b c d = same (ring.plus (ring.times (var a) (ring.minus_one (var d))) (ring.times (var b) (var c))) (ring.minus (ring.times (var b) (var c)) (ring.times (var a) (var d))) (omega arith)

other_order : (a b : ℤ) → a +ℤ b ≡ b +ℤ a
other_order a b = omega (arith, ints)

-- a dot product of rows that hold parts
dot_is : (values : List ℤ) (f g : ℕ → ℤ) (o : ℕ) → o ≤ 128 → values ≡ values_below 256 f →
    dot_of values o (values_below 128 g) ≡ sum_below 128 (λ n. f (o + n) *ℤ g n)
unfolding dot_of
dot_is values f g o within e =
    ap (λ (xs : List ℤ). sum_below 128 (product_at xs o (values_below 128 g))) e
    ∙ sum_below_same 128 (product_at (values_below 256 f) o (values_below 128 g)) (λ n. f (o + n) *ℤ g n)
    (λ n l. ap₂ ◌*ℤ◌ (values_below_at f 256 (o + n) (pos 0) (omega (arith, within, l))) (values_below_at g 128 n (pos 0) l))

-- from the four dot products of a stretch that contains the position
module _ (recording : List Sample) (stretch : Stretch) (t n2 : ℕ) (held : IsStretchOf recording stretch) (from : stretch.from ≤ t) (reached : t ≤ stretch.from + 128) where
  abbrev p : ℕ → Cpx
  p = wave n2

  abbrev f : ℕ → Cpx
  f n = sample_at recording (t + n)

  abbrev four : ProductSums
  four = products_of stretch (t - stretch.from) (wave_re n2) (wave_im n2)

  there : (n : ℕ) → stretch.from + (t - stretch.from + n) ≡ t + n
  there n = omega (arith, from)

  within : t - stretch.from ≤ 128
  within = omega (arith, reached)

  re_by : (g : ℕ → ℤ) → dot_of stretch.re (t - stretch.from) (values_below 128 g) ≡ sum_below 128 (λ n. (f n).re *ℤ g n)
  re_by g =
      dot_is stretch.re (λ n. (sample_at recording (stretch.from + n)).re) g (t - stretch.from) within held.re
      ∙ sum_below_same 128 _ (λ n. (f n).re *ℤ g n) (λ n l. ap (λ i. (sample_at recording i).re *ℤ g n) (there n))

  im_by : (g : ℕ → ℤ) → dot_of stretch.im (t - stretch.from) (values_below 128 g) ≡ sum_below 128 (λ n. (f n).im *ℤ g n)
  im_by g =
      dot_is stretch.im (λ n. (sample_at recording (stretch.from + n)).im) g (t - stretch.from) within held.im
      ∙ sum_below_same 128 _ (λ n. (f n).im *ℤ g n) (λ n l. ap (λ i. (sample_at recording i).im *ℤ g n) (there n))

  -- the sum with a signal's conjugate
  pub by_conjugate : with_conjugate_of four ≡ correlation_at recording t n2
  by_conjugate = pair
      (ap₂ ◌+ℤ◌ (re_by (λ n. (p n).re)) (im_by (λ n. (p n).im))
      ∙ sym (sum_below_same 128 (λ n. (times (f n) (conjugate (p n))).re) (λ n. (f n).re *ℤ (p n).re +ℤ (f n).im *ℤ (p n).im) (λ n l. with_conjugate_re (f n).re (f n).im (p n).re (p n).im)
      ∙ sum_below_plus 128 (λ n. (f n).re *ℤ (p n).re) (λ n. (f n).im *ℤ (p n).im)))
      (ap₂ ◌-ℤ◌ (im_by (λ n. (p n).re)) (re_by (λ n. (p n).im))
      ∙ sym (sum_below_same 128 (λ n. (times (f n) (conjugate (p n))).im) (λ n. (f n).im *ℤ (p n).re -ℤ (f n).re *ℤ (p n).im) (λ n l. with_conjugate_im (f n).re (f n).im (p n).re (p n).im)
      ∙ sum_below_minus 128 (λ n. (f n).im *ℤ (p n).re) (λ n. (f n).re *ℤ (p n).im)))

  -- the sum with the signal itself
  pub by_signal : with_signal_of four ≡ complex_sum_below 128 (λ n. times (f n) (p n))
  by_signal = pair
      (ap₂ ◌-ℤ◌ (re_by (λ n. (p n).re)) (im_by (λ n. (p n).im))
      ∙ sym (sum_below_minus 128 (λ n. (f n).re *ℤ (p n).re) (λ n. (f n).im *ℤ (p n).im)))
      (ap₂ ◌+ℤ◌ (im_by (λ n. (p n).re)) (re_by (λ n. (p n).im))
      ∙ other_order (sum_below 128 (λ n. (f n).im *ℤ (p n).re)) (sum_below 128 (λ n. (f n).re *ℤ (p n).im))
      ∙ sym (sum_below_plus 128 (λ n. (f n).re *ℤ (p n).im) (λ n. (f n).im *ℤ (p n).re)))

-- ---- the energy

pub energy_slides : (recording : List Sample) (t : ℕ) → energy recording (t + 1) + square (sample_at recording t) ≡ energy recording t + square (sample_at recording (t + 128))
unfolding energy
energy_slides recording t = total_below_slides 128 t (λ i. square (sample_at recording i))

-- the first square is part of the energy
pub first-le : (recording : List Sample) (t : ℕ) → square (sample_at recording t) ≤ energy recording t
unfolding energy
first-le recording t =
    let e : t + 0 ≡ t = omega arith in
    subst (λ i. square (sample_at recording i) ≤ total_below 128 (energy_term recording t)) e (total_below-term 128 0 (energy_term recording t) (omega arith))

-- the energy is at most 2 ^ 38 if each square from sample 128 is at most 2 ^ 31
pub energy-small : (recording : List Sample) (place : ℕ) → 128 ≤ place → ((k : ℕ) → k < place → square (sample_at recording (k + 128)) ≤ 2147483648) →
    energy recording place ≤ 274877906944
unfolding energy
energy-small recording place first each =
    total_below-within 128 2147483648 (energy_term recording place)
    (λ n l.
    let e : place + n - 128 + 128 ≡ place + n = omega (arith, first) in
    subst (λ i. square (sample_at recording i) ≤ 2147483648) e (each (place + n - 128) (omega (arith, first, l))))
