-- The unrounded demodulated value of a useful part: 2^35 times each amplitude, and the leakage that comes from rounded
-- tables. Only every fourth frequency leaks, since a quarter turn of W is exact.
use Rattle.std.proofs.Common.{◌≡◌, ◌≢◌, ℕ, zero, suc, ◌+◌, ◌-◌, ◌*◌, ◌%◌, ◌<◌, ◌≤◌, ◌⊎◌, inl, inr, arith, refl, ap, ap₂, sym, subst, ◌∙◌, Bool, true, false, nat_eq, ℤ, pos, neg_ℤ, ◌+ℤ◌, ◌-ℤ◌, ◌*ℤ◌}
use Rattle.std.specs.Prelude.{if◌then◌else◌}
use Rattle.std.proofs.lemmas.Int.{ints}
use Rattle.std.proofs.lemmas.Bool.{cases_lt, eqb-false}
use Rattle.std.proofs.lemmas.Bool.Decides.{nat_tests}
use Rattle.finite.specs.Sums.{sum_below, total_below}
use Rattle.cs_num.specs.declared.Cpx.{Cpx}
use Rattle.cs_num.specs.Complex.{nothing, plus, times, times_j, conjugate, minus, multiple}
use Rattle.cs_num.specs.Sums.{complex_sum_below}
use Rattle.finite.proofs.Ring.{var, lit, same}
use Rattle.finite.proofs.Ring as ring
use Rattle.cs_num.proofs.Complex.{pair, plus-commutes, times-plus, times-commutes}
use Rattle.cs_num.proofs.Sums.{complex_sum_below_same, complex_sum_below_plus, complex_sum_below_split, complex_sum_below_swap}
use Rattle.norms.specs.Magnitudes.{IsBounded, correlation_below}
use Rattle.norms.proofs.Algebra.{plus-minus, times-nothing, times-associates, sum-times, sum-multiple, sum_of_one, sum-times_right}
use Rattle.norms.proofs.Bounded.{sized_plain, bounded-times, bounded-sum, bounded-sum_by}
use Rattle.fold128.specs.Tables.{quarter, cosine, w_at}
use Rattle.fold128.specs.Symbol.{frequency, useful_term}
use Rattle.fold128.proofs.Laws.{w_same, quarter_turn_is_j, backward_is_conjugate, tones_that_turn_cancel}
use Rattle.budget.specs.Received.{AreAmplitudes}
use Rattle.budget.proofs.Products.{nearly_multiplicative}

-- ---- frequencies

frequency_low : (k : ℕ) → k < 36 → frequency k ≡ k + 92
frequency_low k h = grind (arith, nat_tests)

frequency_high : (k : ℕ) → 36 ≤ k → frequency k ≡ k - 35
frequency_high k h = grind (arith, nat_tests)

-- the difference between the frequencies of subcarriers l and k, modulo 128
unfoldable apart : ℕ → ℕ → ℕ
apart l k = frequency l + 127 * frequency k

low_or_high : (k : ℕ) → k < 72 → ((k < 36) × (frequency k ≡ k + 92)) ⊎ ((36 ≤ k) × (frequency k ≡ k - 35))
low_or_high k h = elim (cases_lt k 36) [ inl p ↦ inl (p, frequency_low k p) | inr p ↦ inr (p, frequency_high k p) ]

turns_numbers : (l k f g : ℕ) → l < 72 → k < 72 → l ≢ k → ((l < 36) × (f ≡ l + 92)) ⊎ ((36 ≤ l) × (f ≡ l - 35)) → ((k < 36) × (g ≡ k + 92)) ⊎ ((36 ≤ k) × (g ≡ k - 35)) → 1 ≤ (f + 127 * g) % 128
turns_numbers l k f g p q ne (inl (a, b)) (inl (c, d)) = omega (arith, a, b, c, d)
turns_numbers l k f g p q ne (inl (a, b)) (inr (c, d)) = omega (arith, a, b, c, d)
turns_numbers l k f g p q ne (inr (a, b)) (inl (c, d)) = omega (arith, a, b, c, d)
turns_numbers l k f g p q ne (inr (a, b)) (inr (c, d)) = omega (arith, a, b, c, d)

apart-turns : (l k : ℕ) → l < 72 → k < 72 → l ≢ k → 1 ≤ apart l k % 128
unfolding apart
apart-turns l k p q ne = turns_numbers l k (frequency l) (frequency k) p q ne (low_or_high l p) (low_or_high k q)

still : (f n : ℕ) → ((f + 127 * f) * n) % 128 ≡ 0 % 128
still f n = omega arith

-- ---- the sum of a tone

whole_turn : complex_sum_below 128 (λ _. multiple 16384 (w_at 0)) ≡ record { re = pos 34359738368; im = pos 0 }
unfolding quarter cosine w_at sum_below
whole_turn = refl

tone : ℕ → ℕ → ℕ → Cpx
tone k l n = multiple 16384 (w_at (apart l k * n))

tone_same : (k : ℕ) → complex_sum_below 128 (tone k k) ≡ record { re = pos 34359738368; im = pos 0 }
unfolding tone apart
tone_same k =
    complex_sum_below_same 128 (λ n. multiple 16384 (w_at ((frequency k + 127 * frequency k) * n))) (λ _. multiple 16384 (w_at 0))
    (λ n l. ap (multiple 16384) (w_same ((frequency k + 127 * frequency k) * n) 0 (still (frequency k) n)))
    ∙ whole_turn

multiple_nothing : multiple 16384 nothing ≡ nothing
multiple_nothing = refl

tone_other : (k l : ℕ) → l < 72 → k < 72 → l ≢ k → complex_sum_below 128 (tone k l) ≡ nothing
unfolding tone
tone_other k l p q ne = sum-multiple 128 16384 (λ n. w_at (apart l k * n)) ∙ ap (multiple 16384) (tones_that_turn_cancel (apart l k) (apart-turns l k p q ne)) ∙ multiple_nothing

-- ---- products of two entries

-- the error of the product of two entries
product_off : ℕ → ℕ → Cpx
product_off a b = minus (times (w_at a) (w_at b)) (multiple 16384 (w_at (a + b)))

product-off_small : (a b : ℕ) → IsBounded 22200 1 (product_off a b)
unfolding product_off
product-off_small a b = sized_plain (minus (times (w_at a) (w_at b)) (multiple 16384 (w_at (a + b)))) 22200 (nearly_multiplicative a b)

off : ℕ → ℕ → ℕ → Cpx
off k l n = product_off (frequency l * n) (127 * (frequency k * n))

joined : (f g n : ℕ) → f * n + 127 * (g * n) ≡ (f + 127 * g) * n
joined f g n = omega arith

product_is : (k l n : ℕ) → times (w_at (frequency l * n)) (conjugate (w_at (frequency k * n))) ≡ plus (tone k l n) (off k l n)
unfolding tone off product_off apart
product_is k l n =
    let a : ℕ = frequency l * n in
    let b : ℕ = 127 * (frequency k * n) in
    ap (times (w_at a)) (sym (backward_is_conjugate (frequency k * n))) ∙ sym (plus-minus (times (w_at a) (w_at b)) (multiple 16384 (w_at (a + b))))
    ∙ ap (λ m. plus (multiple 16384 (w_at m)) (minus (times (w_at a) (w_at b)) (multiple 16384 (w_at (a + b))))) (joined (frequency l) (frequency k) n)

-- ---- quarter turns

turned_re : (a b c d n f : ℤ) → neg_ℤ b *ℤ c -ℤ a *ℤ d -ℤ n *ℤ neg_ℤ f ≡ neg_ℤ (a *ℤ d +ℤ b *ℤ c -ℤ n *ℤ f)
turned_re a b c d n f =
    let p = var a in
    let q = var b in
    let r = var c in
    let s = var d in
    let m = var n in
    let t = var f in
    same (ring.minus (ring.minus (ring.times (ring.minus_one q) r) (ring.times p s)) (ring.times m (ring.minus_one t)))
    (ring.minus_one (ring.minus (ring.plus (ring.times p s) (ring.times q r)) (ring.times m t))) (omega arith)

turned_im : (a b c d n e : ℤ) → neg_ℤ b *ℤ d +ℤ a *ℤ c -ℤ n *ℤ e ≡ a *ℤ c -ℤ b *ℤ d -ℤ n *ℤ e
turned_im a b c d n e =
    let p = var a in
    let q = var b in
    let r = var c in
    let s = var d in
    let m = var n in
    let t = var e in
    same (ring.minus (ring.plus (ring.times (ring.minus_one q) s) (ring.times p r)) (ring.times m t)) (ring.minus (ring.minus (ring.times p r) (ring.times q s)) (ring.times m t)) (omega arith)

turned : (u v t : Cpx) (n : ℕ) → minus (times (times_j u) v) (multiple n (times_j t)) ≡ times_j (minus (times u v) (multiple n t))
turned u v t n = pair (turned_re u.re u.im v.re v.im (pos n) t.im) (turned_im u.re u.im v.re v.im (pos n) t.re)

product-off_turns : (a b : ℕ) → product_off (a + 32) b ≡ times_j (product_off a b)
unfolding product_off
product-off_turns a b =
    ap₂ (λ (u t : Cpx). minus (times u (w_at b)) (multiple 16384 t)) (quarter_turn_is_j a) (w_same (a + 32 + b) (a + b + 32) (omega arith) ∙ quarter_turn_is_j (a + b))
    ∙ turned (w_at a) (w_at b) (w_at (a + b)) 16384

product-off_swaps : (a b : ℕ) → product_off a b ≡ product_off b a
unfolding product_off
product-off_swaps a b = ap₂ minus (times-commutes (w_at a) (w_at b)) (ap (λ m. multiple 16384 (w_at m)) (let e : a + b ≡ b + a = omega arith in e))

-- a quarter turn can move from one factor to the other
product-off_moves : (q a b : ℕ) → product_off a (b + 32 * q) ≡ product_off (a + 32 * q) b
product-off_moves zero a b = let e : b + 32 * 0 ≡ b = omega arith in let f : a + 32 * 0 ≡ a = omega arith in ap (product_off a) e ∙ sym (ap (λ m. product_off m b) f)
product-off_moves (suc q) a b =
    ap (product_off a) (let e : b + 32 * suc q ≡ b + 32 * q + 32 = omega arith in e)
    ∙ product-off_swaps a (b + 32 * q + 32) ∙ product-off_turns (b + 32 * q) a ∙ ap times_j (product-off_swaps (b + 32 * q) a) ∙ sym (product-off_turns a (b + 32 * q))
    ∙ product-off_moves q (a + 32) b ∙ ap (λ m. product_off m b) (let e : a + 32 + 32 * q ≡ a + 32 * suc q = omega arith in e)

product-off_same : (a c b : ℕ) → a % 128 ≡ c % 128 → product_off a b ≡ product_off c b
unfolding product_off
product-off_same a c b e = ap₂ (λ (u t : Cpx). minus (times u (w_at b)) (multiple 16384 t)) (w_same a c e) (w_same (a + b) (c + b) (omega (arith, e)))

-- several quarter turns
turned_by : ℕ → Cpx → Cpx
turned_by zero z = z
turned_by (suc q) z = times_j (turned_by q z)

product-off_turned : (q a b : ℕ) → product_off (a + 32 * q) b ≡ turned_by q (product_off a b)
unfolding turned_by
product-off_turned zero a b = ap (λ m. product_off m b) (let e : a + 32 * 0 ≡ a = omega arith in e)
product-off_turned (suc q) a b =
    ap (λ m. product_off m b) (let e : a + 32 * suc q ≡ a + 32 * q + 32 = omega arith in e) ∙ product-off_turns (a + 32 * q) b ∙ ap times_j (product-off_turned q a b)

-- the error 32 samples later
off_later : (k l n : ℕ) → off k l (n + 32) ≡ turned_by (apart l k % 4) (off k l n)
unfolding off apart
off_later k l n = later (frequency l) (frequency k)
  where
    later : (f g : ℕ) → product_off (f * (n + 32)) (127 * (g * (n + 32))) ≡ turned_by ((f + 127 * g) % 4) (product_off (f * n) (127 * (g * n)))
    later f g =
        ap₂ product_off (let e : f * (n + 32) ≡ f * n + 32 * f = omega arith in e) (let e : 127 * (g * (n + 32)) ≡ 127 * (g * n) + 32 * (127 * g) = omega arith in e)
        ∙ product-off_moves (127 * g) (f * n + 32 * f) (127 * (g * n))
        ∙ product-off_same (f * n + 32 * f + 32 * (127 * g)) (f * n + 32 * ((f + 127 * g) % 4)) (127 * (g * n)) (places (f * n) (32 * f) (32 * (127 * g)) (f + 127 * g) (omega arith))
        ∙ product-off_turned ((f + 127 * g) % 4) (f * n) (127 * (g * n))
      where
        places : (a x y d : ℕ) → x + y ≡ 32 * d → (a + x + y) % 128 ≡ (a + 32 * (d % 4)) % 128
        places a x y d h = omega (arith, h)

-- the sum over a period does not change if it begins a quarter later
sum_later : (h : ℕ → Cpx) → ((n : ℕ) → h (n + 128) ≡ h n) → complex_sum_below 128 (λ n. h (n + 32)) ≡ complex_sum_below 128 h
sum_later h period =
    complex_sum_below_split 96 32 (λ n. h (n + 32))
    ∙ ap₂ plus
    (complex_sum_below_same 96 (λ n. h (n + 32)) (λ n. h (32 + n)) (λ n l. ap h (let e : n + 32 ≡ 32 + n = omega arith in e)))
    (complex_sum_below_same 32 (λ n. h (96 + n + 32)) h (λ n l. ap h (let e : 96 + n + 32 ≡ n + 128 = omega arith in e) ∙ period n))
    ∙ plus-commutes (complex_sum_below 96 (λ n. h (32 + n))) (complex_sum_below 32 h) ∙ sym (complex_sum_below_split 32 96 h)

sum_negated : (n : ℕ) (f : ℕ → ℤ) → sum_below n (λ k. neg_ℤ (f k)) ≡ neg_ℤ (sum_below n f)
unfolding sum_below
sum_negated zero f = refl
sum_negated (suc n) f = let before = sum_negated n f in omega (arith, ints, before)

sum_turned : (q n : ℕ) (f : ℕ → Cpx) → complex_sum_below n (λ k. turned_by q (f k)) ≡ turned_by q (complex_sum_below n f)
unfolding turned_by
sum_turned zero n f = refl
sum_turned (suc q) n f = pair (sum_negated n (λ k. (turned_by q (f k)).im)) refl ∙ ap times_j (sum_turned q n f)

-- a number that a turn leaves unchanged is 0
turning_cancels : (r : ℕ) (z : Cpx) → 1 ≤ r → r < 4 → turned_by r z ≡ z → z ≡ nothing
unfolding turned_by
turning_cancels zero z some few e = absurd (omega (arith, some))
turning_cancels (suc zero) z some few e = pair (once z.re z.im (ap (λ (v : Cpx). v.re) e) (ap (λ (v : Cpx). v.im) e)) (again z.re z.im (ap (λ (v : Cpx). v.re) e) (ap (λ (v : Cpx). v.im) e))
  where
    once : (x y : ℤ) → neg_ℤ y ≡ x → x ≡ y → x ≡ pos 0
    once x y p q = omega (arith, ints)

    again : (x y : ℤ) → neg_ℤ y ≡ x → x ≡ y → y ≡ pos 0
    again x y p q = omega (arith, ints)
turning_cancels (suc (suc zero)) z some few e = pair (half z.re (ap (λ (v : Cpx). v.re) e)) (half z.im (ap (λ (v : Cpx). v.im) e))
  where
    half : (x : ℤ) → neg_ℤ x ≡ x → x ≡ pos 0
    half x p = omega (arith, ints)
turning_cancels (suc (suc (suc zero))) z some few e = pair (once z.re z.im (ap (λ (v : Cpx). v.re) e) (ap (λ (v : Cpx). v.im) e)) (again z.re z.im (ap (λ (v : Cpx). v.re) e) (ap (λ (v : Cpx). v.im) e))
  where
    once : (x y : ℤ) → neg_ℤ (neg_ℤ y) ≡ x → neg_ℤ x ≡ y → x ≡ pos 0
    once x y p q = omega (arith, ints)

    again : (x y : ℤ) → neg_ℤ (neg_ℤ y) ≡ x → neg_ℤ x ≡ y → y ≡ pos 0
    again x y p q = omega (arith, ints)
turning_cancels (suc (suc (suc (suc r)))) z some few e = absurd (omega (arith, few))

off_period : (k l n : ℕ) → off k l (n + 128) ≡ off k l n
unfolding off product_off
off_period k l n = again (frequency l) (frequency k)
  where
    again : (f g : ℕ) → minus (times (w_at (f * (n + 128))) (w_at (127 * (g * (n + 128))))) (multiple 16384 (w_at (f * (n + 128) + 127 * (g * (n + 128)))))
        ≡ minus (times (w_at (f * n)) (w_at (127 * (g * n)))) (multiple 16384 (w_at (f * n + 127 * (g * n))))
    again f g =
        ap₂ minus (ap₂ times (w_same (f * (n + 128)) (f * n) (omega arith)) (w_same (127 * (g * (n + 128))) (127 * (g * n)) (omega arith)))
        (ap (multiple 16384) (w_same (f * (n + 128) + 127 * (g * (n + 128))) (f * n + 127 * (g * n)) (omega arith)))

-- a frequency whose distance is not a multiple of four does not leak
off_cancels : (k l : ℕ) → 1 ≤ apart l k % 4 → complex_sum_below 128 (off k l) ≡ nothing
off_cancels k l turns =
    turning_cancels (apart l k % 4) (complex_sum_below 128 (off k l)) turns (omega arith)
    (sym (sum_turned (apart l k % 4) 128 (off k l)) ∙ sym (complex_sum_below_same 128 (λ n. off k l (n + 32)) (λ n. turned_by (apart l k % 4) (off k l n)) (λ n p. off_later k l n))
    ∙ sum_later (off k l) (off_period k l))

-- ---- all subcarriers

-- the sum of the 72 transmitted tones, before rounding
unfoldable pub sum_sent : (ℕ → Cpx) → ℕ → Cpx
sum_sent grid n = complex_sum_below 72 (useful_term grid n)

-- a subcarrier's tone: W at its frequency
abbrev pub tone_at : ℕ → ℕ → Cpx
tone_at k n = w_at (frequency k * n)

-- the leakage into a subcarrier
pub leak : (ℕ → Cpx) → ℕ → Cpx
leak grid k = complex_sum_below 72 (λ l. times (grid l) (complex_sum_below 128 (off k l)))

one_term : (grid : ℕ → Cpx) (k l n : ℕ) → times (useful_term grid n l) (conjugate (tone_at k n)) ≡ times (grid l) (plus (tone k l n) (off k l n))
one_term grid k l n = times-associates (grid l) (w_at (frequency l * n)) (conjugate (w_at (frequency k * n))) ∙ ap (times (grid l)) (product_is k l n)

one_subcarrier : (grid : ℕ → Cpx) (k l : ℕ) →
    complex_sum_below 128 (λ n. times (useful_term grid n l) (conjugate (tone_at k n)))
    ≡ plus (times (grid l) (complex_sum_below 128 (tone k l))) (times (grid l) (complex_sum_below 128 (off k l)))
one_subcarrier grid k l =
    complex_sum_below_same 128 (λ n. times (useful_term grid n l) (conjugate (tone_at k n))) (λ n. times (grid l) (plus (tone k l n) (off k l n))) (λ n p. one_term grid k l n)
    ∙ sum-times 128 (grid l) (λ n. plus (tone k l n) (off k l n))
    ∙ ap (times (grid l)) (complex_sum_below_plus 128 (tone k l) (off k l))
    ∙ times-plus (grid l) (complex_sum_below 128 (tone k l)) (complex_sum_below 128 (off k l))

real_factor : (z : Cpx) → times z (record { re = pos 34359738368; im = pos 0 }) ≡ multiple 34359738368 z
real_factor z =
    let a = var z.re in
    let b = var z.im in
    let m = lit 34359738368 in
    pair (same (ring.minus (ring.times a m) (ring.times b (lit 0))) (ring.times m a) (omega arith)) (same (ring.plus (ring.times a (lit 0)) (ring.times b m)) (ring.times m b) (omega arith))

only_own : (grid : ℕ → Cpx) (k : ℕ) → k < 72 → complex_sum_below 72 (λ l. times (grid l) (complex_sum_below 128 (tone k l))) ≡ multiple 34359738368 (grid k)
only_own grid k q =
    sum_of_one 72 k (λ l. times (grid l) (complex_sum_below 128 (tone k l))) q
    (λ l p ne. ap (times (grid l)) (tone_other k l p q ne) ∙ times-nothing (grid l))
    ∙ ap (times (grid k)) (tone_same k) ∙ real_factor (grid k)

pub seen_sent : (grid : ℕ → Cpx) (k : ℕ) → k < 72 → correlation_below 128 (sum_sent grid) (tone_at k) ≡ plus (multiple 34359738368 (grid k)) (leak grid k)
unfolding sum_sent leak
seen_sent grid k q =
    complex_sum_below_same 128 (λ n. times (complex_sum_below 72 (useful_term grid n)) (conjugate (tone_at k n))) (λ n. complex_sum_below 72 (λ l. times (useful_term grid n l) (conjugate (tone_at k n))))
    (λ n p. sym (sum-times_right 72 (useful_term grid n) (conjugate (tone_at k n))))
    ∙ complex_sum_below_swap 128 72 (λ n l. times (useful_term grid n l) (conjugate (tone_at k n)))
    ∙ complex_sum_below_same 72 (λ l. complex_sum_below 128 (λ n. times (useful_term grid n l) (conjugate (tone_at k n))))
    (λ l. plus (times (grid l) (complex_sum_below 128 (tone k l))) (times (grid l) (complex_sum_below 128 (off k l)))) (λ l p. one_subcarrier grid k l)
    ∙ complex_sum_below_plus 72 (λ l. times (grid l) (complex_sum_below 128 (tone k l))) (λ l. times (grid l) (complex_sum_below 128 (off k l)))
    ∙ ap (λ (z : Cpx). plus z (complex_sum_below 72 (λ l. times (grid l) (complex_sum_below 128 (off k l))))) (only_own grid k q)

-- ---- the magnitude of the leakage

-- the maximum leakage of a subcarrier into those whose frequency is r modulo 4: 256 * 128 * 22200
leaks_at : ℕ → ℕ → ℕ
leaks_at r l = if nat_eq (frequency l % 4) r then 727449600 else 0

-- 18 of the 72 subcarriers leak
leaks_together : (r : ℕ) → r < 4 → total_below 72 (leaks_at r) ≡ 13094092800
unfolding total_below leaks_at
leaks_together zero few = refl
leaks_together (suc zero) few = refl
leaks_together (suc (suc zero)) few = refl
leaks_together (suc (suc (suc zero))) few = refl
leaks_together (suc (suc (suc (suc r)))) few = absurd (omega (arith, few))

leak_of : (grid : ℕ → Cpx) (k l : ℕ) → l < 72 → AreAmplitudes grid → (b : Bool) → nat_eq (frequency l % 4) (frequency k % 4) ≡ b →
    IsBounded (if b then 727449600 else 0) 1 (times (grid l) (complex_sum_below 128 (off k l)))
unfolding off apart
leak_of grid k l inside small true e =
    bounded-times (grid l) (complex_sum_below 128 (λ n. product_off (frequency l * n) (127 * (frequency k * n)))) 256 2841600 1 1 (sized_plain (grid l) 256 (small l inside))
    (bounded-sum 128 (λ n. product_off (frequency l * n) (127 * (frequency k * n))) 22200 1 (λ n r. product-off_small (frequency l * n) (127 * (frequency k * n))))
leak_of grid k l inside small false e =
    subst (IsBounded 0 1) (sym (ap (times (grid l)) (off_cancels k l (turns (frequency l) (frequency k) e)) ∙ times-nothing (grid l))) (record { bounded = omega arith })
  where
    turns : (f g : ℕ) → nat_eq (f % 4) (g % 4) ≡ false → 1 ≤ (f + 127 * g) % 4
    turns f g h = let other : f % 4 ≢ g % 4 = eqb-false (f % 4) (g % 4) h in omega (arith, other)

pub leak-small : (grid : ℕ → Cpx) (k : ℕ) → AreAmplitudes grid → IsBounded 13094092800 1 (leak grid k)
unfolding leak leaks_at
leak-small grid k small =
    subst (λ m. IsBounded m 1 (leak grid k)) (leaks_together (frequency k % 4) (omega arith))
    (bounded-sum_by 72 (λ l. times (grid l) (complex_sum_below 128 (off k l))) (leaks_at (frequency k % 4)) 1
    (λ l p. leak_of grid k l p small (nat_eq (frequency l % 4) (frequency k % 4)) refl))
