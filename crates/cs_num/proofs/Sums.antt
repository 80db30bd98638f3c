-- Steps, bounds and laws for finite sums of complex integers.
use Rattle.std.proofs.Common.{◌≡◌, ℕ, ◌+◌, ◌-◌, ◌*◌, ◌<◌, arith, ap, ap₂, sym, ◌∙◌, ℤ, ◌+ℤ◌}
use Rattle.std.proofs.lemmas.Int.{ints}
use Rattle.finite.proofs.Sums.{sum_below_none, sum_below_more, sum_below_same, sum_below-within, sum_below_plus, sum_below_split, sum_below_swap, sum_below_one, sum_below_backward}
use Rattle.cs_num.specs.declared.Cpx.{Cpx}
use Rattle.cs_num.specs.Complex.{IsWithin, nothing, plus}
use Rattle.cs_num.specs.Sums.{complex_sum_below}
use Rattle.cs_num.proofs.Complex.{pair}

pub complex_sum_below_none : (f : ℕ → Cpx) → complex_sum_below 0 f ≡ nothing
complex_sum_below_none f = pair (sum_below_none (λ k. (f k).re)) (sum_below_none (λ k. (f k).im))

pub complex_sum_below_more : (n : ℕ) (f : ℕ → Cpx) → complex_sum_below (n + 1) f ≡ plus (complex_sum_below n f) (f n)
complex_sum_below_more n f = pair (sum_below_more n (λ k. (f k).re)) (sum_below_more n (λ k. (f k).im))

pub complex_sum_below_same : (n : ℕ) (f g : ℕ → Cpx) → ((k : ℕ) → k < n → f k ≡ g k) → complex_sum_below n f ≡ complex_sum_below n g
complex_sum_below_same n f g h = pair
    (sum_below_same n (λ k. (f k).re) (λ k. (g k).re) (λ k l. ap (λ z. z.re) (h k l)))
    (sum_below_same n (λ k. (f k).im) (λ k. (g k).im) (λ k l. ap (λ z. z.im) (h k l)))

pub complex_sum_below-within : (n bound : ℕ) (f : ℕ → Cpx) → ((k : ℕ) → k < n → IsWithin bound (f k)) → IsWithin (n * bound) (complex_sum_below n f)
complex_sum_below-within n bound f h = record {
  re = sum_below-within n bound (λ k. (f k).re) (λ k l. (h k l).re);
  im = sum_below-within n bound (λ k. (f k).im) (λ k l. (h k l).im);
}

pub complex_sum_below_plus : (n : ℕ) (f g : ℕ → Cpx) → complex_sum_below n (λ k. plus (f k) (g k)) ≡ plus (complex_sum_below n f) (complex_sum_below n g)
complex_sum_below_plus n f g = pair
    (sum_below_plus n (λ k. (f k).re) (λ k. (g k).re))
    (sum_below_plus n (λ k. (f k).im) (λ k. (g k).im))

pub complex_sum_below_split : (n m : ℕ) (f : ℕ → Cpx) → complex_sum_below (n + m) f ≡ plus (complex_sum_below n f) (complex_sum_below m (λ k. f (n + k)))
complex_sum_below_split n m f = pair
    (sum_below_split n m (λ k. (f k).re))
    (sum_below_split n m (λ k. (f k).im))

pub complex_sum_below_swap : (n m : ℕ) (f : ℕ → ℕ → Cpx) →
    complex_sum_below n (λ i. complex_sum_below m (f i)) ≡ complex_sum_below m (λ j. complex_sum_below n (λ i. f i j))
complex_sum_below_swap n m f = pair
    (sum_below_swap n m (λ i j. (f i j).re))
    (sum_below_swap n m (λ i j. (f i j).im))

pub complex_sum_below_one : (f : ℕ → Cpx) → complex_sum_below 1 f ≡ f 0
complex_sum_below_one f = pair (sum_below_one (λ k. (f k).re)) (sum_below_one (λ k. (f k).im))

-- a sum over 4n numbers as a sum of the sums of four numbers at distance n
pub complex_sum_below_quarters : (n : ℕ) (f : ℕ → Cpx) →
    complex_sum_below (4 * n) f ≡ complex_sum_below n (λ m. plus (f m) (plus (f (m + n)) (plus (f (m + 2 * n)) (f (m + 3 * n)))))
complex_sum_below_quarters n f =
    let f1 : ℕ → Cpx = λ m. f (n + m) in
    let f2 : ℕ → Cpx = λ m. f (n + (n + m)) in
    let f3 : ℕ → Cpx = λ m. f (n + (n + (n + m))) in
    let all : 4 * n ≡ n + (n + (n + n)) = omega arith in
    let first = complex_sum_below_split n (n + (n + n)) f in
    let second = complex_sum_below_split n (n + n) f1 in
    let third = complex_sum_below_split n n f2 in
    let joined = complex_sum_below_plus n f (λ m. plus (f1 m) (plus (f2 m) (f3 m))) in
    let joined1 = complex_sum_below_plus n f1 (λ m. plus (f2 m) (f3 m)) in
    let joined2 = complex_sum_below_plus n f2 f3 in
    ap (λ k. complex_sum_below k f) all ∙ first ∙ ap (plus (complex_sum_below n f)) (second ∙ ap (plus (complex_sum_below n f1)) third)
    ∙ sym (joined ∙ ap (plus (complex_sum_below n f)) (joined1 ∙ ap (plus (complex_sum_below n f1)) joined2))
    ∙ complex_sum_below_same n (λ m. plus (f m) (plus (f1 m) (plus (f2 m) (f3 m)))) (λ m. plus (f m) (plus (f (m + n)) (plus (f (m + 2 * n)) (f (m + 3 * n))))) (λ m l. at m)
  where
    at : (m : ℕ) → plus (f m) (plus (f (n + m)) (plus (f (n + (n + m))) (f (n + (n + (n + m)))))) ≡ plus (f m) (plus (f (m + n)) (plus (f (m + 2 * n)) (f (m + 3 * n))))
    at m =
        let e1 : n + m ≡ m + n = omega arith in
        let e2 : n + (n + m) ≡ m + 2 * n = omega arith in
        let e3 : n + (n + (n + m)) ≡ m + 3 * n = omega arith in
        let four : ℕ → ℕ → ℕ → Cpx = λ x y z. plus (f m) (plus (f x) (plus (f y) (f z))) in
        ap (λ x. four x (n + (n + m)) (n + (n + (n + m)))) e1 ∙ ap (λ y. four (m + n) y (n + (n + (n + m)))) e2 ∙ ap (four (m + n) (m + 2 * n)) e3

-- reversing the terms does not change the sum
pub complex_sum_below_backward : (n : ℕ) (f : ℕ → Cpx) → complex_sum_below n (λ k. f (n - 1 - k)) ≡ complex_sum_below n f
complex_sum_below_backward n f = pair (sum_below_backward n (λ k. (f k).re)) (sum_below_backward n (λ k. (f k).im))

regrouped_part : (a b c d : ℤ) → a +ℤ (b +ℤ (c +ℤ d)) ≡ a +ℤ (b +ℤ d +ℤ c)
regrouped_part a b c d = omega (arith, ints)

regrouped : (a b c d : Cpx) → plus a (plus b (plus c d)) ≡ plus a (plus (plus b d) c)
regrouped a b c d = pair (regrouped_part a.re b.re c.re d.re) (regrouped_part a.im b.im c.im d.im)

-- a sum of 2h + 2 terms, folded: the first term, h pairs at equal distance from the middle, and the middle term
pub complex_sum_below_folded : (h : ℕ) (f : ℕ → Cpx) → complex_sum_below (1 + (h + (1 + h))) f
    ≡ plus (f 0) (plus (complex_sum_below h (λ k. plus (f (1 + k)) (f (1 + (h + (1 + (h - 1 - k))))))) (f (1 + h)))
complex_sum_below_folded h f =
    let first : ℕ → Cpx = λ k. f (1 + k) in
    let last : ℕ → Cpx = λ k. f (1 + (h + (1 + k))) in
    let middle : f (1 + (h + 0)) ≡ f (1 + h) = ap f (let e : 1 + (h + 0) ≡ 1 + h = omega arith in e) in
    complex_sum_below_split 1 (h + (1 + h)) f
    ∙ ap₂ plus (complex_sum_below_one f)
    (complex_sum_below_split h (1 + h) first ∙ ap (plus (complex_sum_below h first))
    (complex_sum_below_split 1 h (λ k. first (h + k)) ∙ ap₂ plus (complex_sum_below_one (λ k. first (h + k)) ∙ middle) (sym (complex_sum_below_backward h last))))
    ∙ regrouped (f 0) (complex_sum_below h first) (f (1 + h)) (complex_sum_below h (λ k. last (h - 1 - k)))
    ∙ ap (λ z. plus (f 0) (plus z (f (1 + h)))) (sym (complex_sum_below_plus h first (λ k. last (h - 1 - k))))
