-- Folding: a sum over 128 samples equals a sum over 32 quartets.
use Rattle.std.proofs.Common.{◌≡◌, ℕ, zero, suc, ◌+◌, ◌-◌, ◌*◌, ◌%◌, ◌<◌, ◌≤◌, arith, refl, ap, sym, subst, ◌∙◌, true, false, nat_eq, List, ℤ, neg_ℤ, ◌+ℤ◌, ◌-ℤ◌, ◌*ℤ◌, slice_index_or}
use Rattle.std.proofs.lemmas.Int.{ints}
use Rattle.std.proofs.lemmas.Bool.Decides.{nat_tests}
use Rattle.finite.specs.Sums.{sum_below}
use Rattle.finite.specs.Lists.{values_below}
use Rattle.finite.proofs.Lists.{values_below_at}
use Rattle.finite.proofs.Ring.{var, same}
use Rattle.finite.proofs.Ring as ring
use Rattle.cs_num.specs.declared.Cpx.{Cpx}
use Rattle.cs_num.specs.Complex.{nothing, plus, minus, times, times_j, conjugate, times_minus_j}
use Rattle.cs_num.specs.Sums.{complex_sum_below}
use Rattle.cs_num.proofs.Complex.{pair, times-plus_left}
use Rattle.cs_num.proofs.Sums.{complex_sum_below_quarters, complex_sum_below_same}
use Rattle.fold128.specs.Tables.{w_at}
use Rattle.fold128.specs.Symbol.{frequency}
use Rattle.fold128.specs.Spectrum.{spectrum_term, spectrum_at}
use Rattle.fold128.specs.declared.quartet.Quartet.{Quartet}
use Rattle.fold128.specs.declared.spectrum.Mirror.{Mirror}
use Rattle.fold128.specs.Folding.{back_by, seen_of_four, quartet_of, quartet_at, folded_places, taken, empty_quartet, folded_term, opposite, mirror_at, mirrors, empty_mirror, mirrored, mirrored_term}
use Rattle.fold128.proofs.Tones.{times-nothing}
use Rattle.fold128.proofs.Laws.{w_same, quarter_turn_is_j, backward_is_conjugate}

-- ---- a table `t` of which a quarter period multiplies by j

once_re : (a b c d : ℤ) → a *ℤ neg_ℤ d -ℤ b *ℤ neg_ℤ c ≡ b *ℤ c -ℤ neg_ℤ a *ℤ neg_ℤ d
once_re a b c d =
    same
    (ring.minus (ring.times (var a) (ring.minus_one (var d))) (ring.times (var b) (ring.minus_one (var c))))
    (ring.minus (ring.times (var b) (var c)) (ring.times (ring.minus_one (var a)) (ring.minus_one (var d))))
    (omega arith)

once_im : (a b c d : ℤ) → a *ℤ neg_ℤ c +ℤ b *ℤ neg_ℤ d ≡ b *ℤ neg_ℤ d +ℤ neg_ℤ a *ℤ c
once_im a b c d =
    same
    (ring.plus (ring.times (var a) (ring.minus_one (var c))) (ring.times (var b) (ring.minus_one (var d))))
    (ring.plus (ring.times (var b) (ring.minus_one (var d))) (ring.times (ring.minus_one (var a)) (var c)))
    (omega arith)

once : (z v : Cpx) → times z (conjugate (times_j v)) ≡ times (times_minus_j z) (conjugate v)
once z v = pair (once_re z.re z.im v.re v.im) (once_im z.re z.im v.re v.im)

module _ (t : ℕ → Cpx) (period : ℕ) (turns : (x : ℕ) → t (x + period) ≡ times_j (t x)) where
  -- adding quarter periods to the table's argument multiplies the other factor by powers of -j
  pub back_turns : (q x : ℕ) (z : Cpx) → times z (conjugate (t (x + period * q))) ≡ times (back_by q z) (conjugate (t x))
  unfolding back_by
  back_turns zero x z = let e : x + period * 0 ≡ x = omega arith in rw e refl
  back_turns (suc q) x z =
      let e : x + period * suc q ≡ x + period * q + period = omega arith in
      ap (λ v. times z (conjugate v)) (ap t e ∙ turns (x + period * q)) ∙ once z (t (x + period * q)) ∙ back_turns q x (times_minus_j z)

  -- four samples whose table arguments are r quarter periods apart
  pub four_turn : (r x : ℕ) (a b c d : Cpx) →
      plus (times a (conjugate (t x))) (plus (times b (conjugate (t (x + period * r)))) (plus (times c (conjugate (t (x + period * (2 * r))))) (times d (conjugate (t (x + period * (3 * r)))))))
      ≡ times (seen_of_four r a b c d) (conjugate (t x))
  unfolding seen_of_four
  four_turn r x a b c d =
      let v : Cpx = conjugate (t x) in
      let sb : Cpx = back_by r b in
      let sc : Cpx = back_by (2 * r) c in
      let sd : Cpx = back_by (3 * r) d in
      let third : Cpx = times c (conjugate (t (x + period * (2 * r)))) in
      let fourth : Cpx = times d (conjugate (t (x + period * (3 * r)))) in
      ap (λ y. plus (times a v) (plus y (plus third fourth))) (back_turns r x b)
      ∙ ap (λ y. plus (times a v) (plus (times sb v) (plus y fourth))) (back_turns (2 * r) x c)
      ∙ ap (λ y. plus (times a v) (plus (times sb v) (plus (times sc v) y))) (back_turns (3 * r) x d)
      ∙ ap (λ y. plus (times a v) (plus (times sb v) y)) (sym (times-plus_left sc sd v))
      ∙ ap (plus (times a v)) (sym (times-plus_left sb (plus sc sd) v))
      ∙ sym (times-plus_left a (plus sb (plus sc sd)) v)

-- ---- four samples at distance 32

-- sample n's contribution to a frequency
abbrev part : (ℕ → Cpx) → ℕ → ℕ → Cpx
part samples f n = times (samples n) (conjugate (w_at (f * n)))

four_parts : (samples : ℕ → Cpx) (f m : ℕ) →
    plus (part samples f m) (plus (part samples f (m + 32)) (plus (part samples f (m + 64)) (part samples f (m + 96))))
    ≡ times (seen_of_four (f % 4) (samples m) (samples (m + 32)) (samples (m + 64)) (samples (m + 96))) (conjugate (w_at (f * m)))
four_parts samples f m =
    let e1 = w_same (f * (m + 32)) (f * m + 32 * (f % 4)) (omega arith) in
    let e2 = w_same (f * (m + 64)) (f * m + 32 * (2 * (f % 4))) (omega arith) in
    let e3 = w_same (f * (m + 96)) (f * m + 32 * (3 * (f % 4))) (omega arith) in
    rw (e1, e2, e3) (four_turn w_at 32 quarter_turn_is_j (f % 4) (f * m) (samples m) (samples (m + 32)) (samples (m + 64)) (samples (m + 96)))

-- ---- the complete sum

taken_is : (r : ℕ) (a b c d : Cpx) → r < 4 → taken (quartet_of a b c d) r ≡ seen_of_four r a b c d
taken_is zero a b c d l = refl
taken_is (suc zero) a b c d l = refl
taken_is (suc (suc zero)) a b c d l = refl
taken_is (suc (suc (suc zero))) a b c d l = refl
taken_is (suc (suc (suc (suc r)))) a b c d l = absurd (omega arith)

-- the DFT at a subcarrier as a sum over the 32 quartets
pub spectrum_folds : (samples : ℕ → Cpx) (k : ℕ) →
    complex_sum_below 32 (folded_term (folded_places samples) (frequency k)) ≡ spectrum_at samples k
unfolding spectrum_at folded_places
spectrum_folds samples k = sym (complex_sum_below_quarters 32 (spectrum_term samples k) ∙ complex_sum_below_same 32
    (λ m. plus (part samples (frequency k) m) (plus (part samples (frequency k) (m + 32)) (plus (part samples (frequency k) (m + 64)) (part samples (frequency k) (m + 96)))))
    (folded_term (values_below 32 (quartet_at samples)) (frequency k))
    (λ m l. at_place (frequency k) m l))
  where
    at_place : (f m : ℕ) → m < 32 →
        plus (part samples f m) (plus (part samples f (m + 32)) (plus (part samples f (m + 64)) (part samples f (m + 96))))
        ≡ folded_term (values_below 32 (quartet_at samples)) f m
    at_place f m l =
        four_parts samples f m
        ∙ ap (λ z. times z (conjugate (w_at (f * m)))) (sym (taken_is (f % 4) (samples m) (samples (m + 32)) (samples (m + 64)) (samples (m + 96)) (omega arith)))
        ∙ ap (λ q. times (taken q (f % 4)) (conjugate (w_at (f * m)))) (sym (values_below_at (quartet_at samples) 32 m empty_quartet l))

-- ---- the indices m and 32 - m combined

both_re : (a b c d v w : ℤ) → a *ℤ v -ℤ b *ℤ neg_ℤ w +ℤ (c *ℤ v -ℤ d *ℤ w) ≡ (a +ℤ c) *ℤ v +ℤ (b -ℤ d) *ℤ w
both_re a b c d v w =
    same
    (ring.plus
    (ring.minus (ring.times (var a) (var v)) (ring.times (var b) (ring.minus_one (var w))))
    (ring.minus (ring.times (var c) (var v)) (ring.times (var d) (var w))))
    (ring.plus (ring.times (ring.plus (var a) (var c)) (var v)) (ring.times (ring.minus (var b) (var d)) (var w)))
    (omega arith)

both_im : (a b c d v w : ℤ) → a *ℤ neg_ℤ w +ℤ b *ℤ v +ℤ (c *ℤ w +ℤ d *ℤ v) ≡ (b +ℤ d) *ℤ v +ℤ neg_ℤ (a -ℤ c) *ℤ w
both_im a b c d v w =
    same
    (ring.plus
    (ring.plus (ring.times (var a) (ring.minus_one (var w))) (ring.times (var b) (var v)))
    (ring.plus (ring.times (var c) (var w)) (ring.times (var d) (var v))))
    (ring.plus (ring.times (ring.plus (var b) (var d)) (var v)) (ring.times (ring.minus_one (ring.minus (var a) (var c))) (var w)))
    (omega arith)

-- one number multiplied by W's conjugate, and one by W
both : (q p v : Cpx) → plus (times q (conjugate v)) (times p v) ≡ mirrored (record { real = plus q p; imaginary = times_minus_j (minus q p) }) v
both q p v = pair (both_re q.re q.im p.re p.im v.re v.im) (both_im q.re q.im p.re p.im v.re v.im)

twice : (v : Cpx) → conjugate (conjugate v) ≡ v
twice v = pair refl (omega (arith, ints))

spread : (f a b c : ℕ) → a + b ≡ c → f * a + f * b ≡ f * c
spread f a b c e = subst (λ n. f * a + f * b ≡ f * n) e (omega arith)

-- W at index 32 - m, by symmetry
opposite_turns : (f m : ℕ) (z : Cpx) → m ≤ 32 → times z (conjugate (w_at (f * (32 - m)))) ≡ times (back_by (f % 4) z) (w_at (f * m))
opposite_turns f m z inside =
    let whole : f * (32 - m) + f * m ≡ f * 32 = spread f (32 - m) m 32 (omega (arith, inside)) in
    ap (λ v. times z (conjugate v)) (w_same (f * (32 - m)) (127 * (f * m) + 32 * (f % 4)) (omega (arith, whole)))
    ∙ back_turns w_at 32 quarter_turn_is_j (f % 4) (127 * (f * m)) z
    ∙ ap (λ v. times (back_by (f % 4) z) (conjugate v)) (backward_is_conjugate (f * m))
    ∙ ap (times (back_by (f % 4) z)) (twice (w_at (f * m)))

plus-nothing_right : (a : Cpx) → plus a nothing ≡ a
plus-nothing_right a = pair (omega (arith, ints)) (omega (arith, ints))

module _ (folded : List Quartet) (f : ℕ) where
  read : (m : ℕ) → m < 17 → mirrored_term (mirrors folded (f % 4)) f m ≡ mirrored (mirror_at folded (f % 4) m) (w_at (f * m))
  unfolding mirrors
  read m l = ap (λ (p : Mirror). mirrored p (w_at (f * m))) (values_below_at (mirror_at folded (f % 4)) 17 m empty_mirror l)

  alone : (m : ℕ) → m < 17 → nat_eq (m % 16) 0 ≡ true → mirrored_term (mirrors folded (f % 4)) f m ≡ folded_term folded f m
  alone m l e =
      let here : Cpx = taken (slice_index_or folded m empty_quartet) (f % 4) in
      let none : opposite folded (f % 4) m ≡ nothing = rw e refl in
      read m l
      ∙ ap (λ (p : Cpx). mirrored (record { real = plus here p; imaginary = times_minus_j (minus here p) }) (w_at (f * m))) none
      ∙ sym (both here nothing (w_at (f * m)))
      ∙ ap (plus (folded_term folded f m)) (times-nothing (w_at (f * m)))
      ∙ plus-nothing_right (folded_term folded f m)

  together : (m : ℕ) → m < 17 → nat_eq (m % 16) 0 ≡ false → mirrored_term (mirrors folded (f % 4)) f m ≡ plus (folded_term folded f m) (folded_term folded f (32 - m))
  together m l e =
      let here : Cpx = taken (slice_index_or folded m empty_quartet) (f % 4) in
      let there : Cpx = taken (slice_index_or folded (32 - m) empty_quartet) (f % 4) in
      let is : opposite folded (f % 4) m ≡ back_by (f % 4) there = rw e refl in
      read m l
      ∙ ap (λ (p : Cpx). mirrored (record { real = plus here p; imaginary = times_minus_j (minus here p) }) (w_at (f * m))) is
      ∙ sym (both here (back_by (f % 4) there) (w_at (f * m)))
      ∙ ap (plus (folded_term folded f m)) (sym (opposite_turns f m there (omega arith)))

-- a sum over 32 numbers, with all but the first and the middle one paired
paired : (g h : ℕ → ℤ) → h 0 ≡ g 0 → h 16 ≡ g 16 → ((m : ℕ) → 0 < m → m < 16 → h m ≡ g m +ℤ g (32 - m)) → sum_below 17 h ≡ sum_below 32 g
unfolding sum_below
paired g h first middle pairs =
    omega (
      arith,
      ints,
      first,
      middle,
      pairs 1 (omega arith) (omega arith),
      pairs 2 (omega arith) (omega arith),
      pairs 3 (omega arith) (omega arith),
      pairs 4 (omega arith) (omega arith),
      pairs 5 (omega arith) (omega arith),
      pairs 6 (omega arith) (omega arith),
      pairs 7 (omega arith) (omega arith),
      pairs 8 (omega arith) (omega arith),
      pairs 9 (omega arith) (omega arith),
      pairs 10 (omega arith) (omega arith),
      pairs 11 (omega arith) (omega arith),
      pairs 12 (omega arith) (omega arith),
      pairs 13 (omega arith) (omega arith),
      pairs 14 (omega arith) (omega arith),
      pairs 15 (omega arith) (omega arith),
    )

pub mirrors_fold : (folded : List Quartet) (f : ℕ) → complex_sum_below 17 (mirrored_term (mirrors folded (f % 4)) f) ≡ complex_sum_below 32 (folded_term folded f)
mirrors_fold folded f =
    let g : ℕ → Cpx = folded_term folded f in
    let h : ℕ → Cpx = mirrored_term (mirrors folded (f % 4)) f in
    let first : h 0 ≡ g 0 = alone folded f 0 (omega arith) refl in
    let middle : h 16 ≡ g 16 = alone folded f 16 (omega arith) refl in
    let pairs : (m : ℕ) → 0 < m → m < 16 → h m ≡ plus (g m) (g (32 - m)) = λ m some l. together folded f m (omega arith) (grind (arith, nat_tests)) in
    pair
    (paired (λ m. (g m).re) (λ m. (h m).re) (ap (λ z. z.re) first) (ap (λ z. z.re) middle) (λ m some l. ap (λ z. z.re) (pairs m some l)))
    (paired (λ m. (g m).im) (λ m. (h m).im) (ap (λ z. z.im) first) (ap (λ z. z.im) middle) (λ m some l. ap (λ z. z.im) (pairs m some l)))
