-- Synthesis: what subcarrier values contribute to four samples at distance 32.
use Rattle.std.proofs.Common.{◌≡◌, ℕ, zero, suc, ◌+◌, ◌*◌, ◌%◌, ◌<◌, ◌≤◌, arith, refl, ap, sym, ◌∙◌, Bool, true, false, nat_eq, ℤ, pos, neg_ℤ, ◌+ℤ◌, ◌-ℤ◌, ◌*ℤ◌, to_z, of_z, w64}
use Rattle.std.specs.Prelude.{nat_abs, if◌then◌else◌}
use Rattle.std.proofs.lemmas.Int.{ints, to_z-of_z, fits_signed_from_abs}
use Rattle.finite.proofs.Ring.{var, same}
use Rattle.finite.proofs.Ring as ring
use Rattle.cs_num.specs.declared.Cpx.{Cpx}
use Rattle.cs_num.specs.Complex.{IsWithin, nothing, plus, times, times_j}
use Rattle.cs_num.proofs.Complex.{pair}
use Rattle.fold128.specs.declared.quartet.Quartet.{Quartet}
use Rattle.fold128.specs.Tables.{w_at}
use Rattle.fold128.specs.Folding.{forward_by, given_at, unfolded, taken, added, empty_quartet}
use Rattle.fold128.proofs.Laws.{w_same, quarter_turn_is_j}

-- ---- adding a quarter period to W's argument multiplies the product by j

across_re : (a b c d : ℤ) → a *ℤ neg_ℤ d -ℤ b *ℤ c ≡ neg_ℤ b *ℤ c -ℤ a *ℤ d
across_re a b c d =
    same
    (ring.minus (ring.times (var a) (ring.minus_one (var d))) (ring.times (var b) (var c)))
    (ring.minus (ring.times (ring.minus_one (var b)) (var c)) (ring.times (var a) (var d)))
    (omega arith)

across_im : (a b c d : ℤ) → a *ℤ c +ℤ b *ℤ neg_ℤ d ≡ neg_ℤ b *ℤ d +ℤ a *ℤ c
across_im a b c d =
    same
    (ring.plus (ring.times (var a) (var c)) (ring.times (var b) (ring.minus_one (var d))))
    (ring.plus (ring.times (ring.minus_one (var b)) (var d)) (ring.times (var a) (var c)))
    (omega arith)

across : (z v : Cpx) → times z (times_j v) ≡ times (times_j z) v
across z v = pair (across_re z.re z.im v.re v.im) (across_im z.re z.im v.re v.im)

outward_re : (a b c d : ℤ) → neg_ℤ b *ℤ c -ℤ a *ℤ d ≡ neg_ℤ (a *ℤ d +ℤ b *ℤ c)
outward_re a b c d =
    same
    (ring.minus (ring.times (ring.minus_one (var b)) (var c)) (ring.times (var a) (var d)))
    (ring.minus_one (ring.plus (ring.times (var a) (var d)) (ring.times (var b) (var c))))
    (omega arith)

outward_im : (a b c d : ℤ) → neg_ℤ b *ℤ d +ℤ a *ℤ c ≡ a *ℤ c -ℤ b *ℤ d
outward_im a b c d =
    same
    (ring.plus (ring.times (ring.minus_one (var b)) (var d)) (ring.times (var a) (var c)))
    (ring.minus (ring.times (var a) (var c)) (ring.times (var b) (var d)))
    (omega arith)

outward : (z v : Cpx) → times (times_j z) v ≡ times_j (times z v)
outward z v = pair (outward_re z.re z.im v.re v.im) (outward_im z.re z.im v.re v.im)

forward_turns : (q x : ℕ) (z : Cpx) → times z (w_at (x + 32 * q)) ≡ forward_by q (times z (w_at x))
unfolding forward_by
forward_turns zero x z = let e : x + 32 * 0 ≡ x = omega arith in rw e refl
forward_turns (suc q) x z =
    let e : w_at (x + 32 * suc q) ≡ times_j (w_at (x + 32 * q)) = w_same (x + 32 * suc q) (x + 32 * q + 32) (omega arith) ∙ quarter_turn_is_j (x + 32 * q) in
    ap (times z) e ∙ across z (w_at (x + 32 * q)) ∙ forward_turns q x (times_j z) ∙ ap (forward_by q) (outward z (w_at x))

-- the product for the sample q quarters later
pub tone_later : (z : Cpx) (f m q : ℕ) → q < 4 → forward_by (f % 4 * q) (times z (w_at (f * m))) ≡ times z (w_at (f * (m + 32 * q)))
tone_later z f m q few = sym (ap (times z) (w_same (f * (m + 32 * q)) (f * m + 32 * (f % 4 * q)) (places q few)) ∙ forward_turns (f % 4 * q) (f * m) z)
  where
    places : (q : ℕ) → q < 4 → f * (m + 32 * q) % 128 ≡ (f * m + 32 * (f % 4 * q)) % 128
    places zero few = omega arith
    places (suc zero) few = omega arith
    places (suc (suc zero)) few = omega arith
    places (suc (suc (suc zero))) few = omega arith
    places (suc (suc (suc (suc q)))) few = absurd (omega (arith, few))

-- ---- adding to a quartet

forward-plus : (q : ℕ) (a b : Cpx) → forward_by q (plus a b) ≡ plus (forward_by q a) (forward_by q b)
unfolding forward_by
forward-plus zero a b = refl
forward-plus (suc q) a b =
    let e : times_j (plus a b) ≡ plus (times_j a) (times_j b) = pair (omega (arith, ints)) refl in
    ap (forward_by q) e ∙ forward-plus q (times_j a) (times_j b)

first_more : (a b c d t : Cpx) → plus (plus a t) (plus b (plus c d)) ≡ plus (plus a (plus b (plus c d))) t
first_more a b c d t = pair (omega (arith, ints)) (omega (arith, ints))

second_more : (a b c d t : Cpx) → plus a (plus (plus b t) (plus c d)) ≡ plus (plus a (plus b (plus c d))) t
second_more a b c d t = pair (omega (arith, ints)) (omega (arith, ints))

third_more : (a b c d t : Cpx) → plus a (plus b (plus (plus c t) d)) ≡ plus (plus a (plus b (plus c d))) t
third_more a b c d t = pair (omega (arith, ints)) (omega (arith, ints))

fourth_more : (a b c d t : Cpx) → plus a (plus b (plus c (plus d t))) ≡ plus (plus a (plus b (plus c d))) t
fourth_more a b c d t = pair (omega (arith, ints)) (omega (arith, ints))

-- a number added under residue r is multiplied by j ^ (r q) in the sample q quarters later
pub given-added : (p : Quartet) (r q : ℕ) (t : Cpx) → r < 4 → given_at q (added p r t) ≡ plus (given_at q p) (forward_by (r * q) t)
unfolding given_at forward_by
given-added p zero q t few =
    let e : 0 * q ≡ 0 = omega arith in
    rw e (first_more p.zero (forward_by q p.one) (forward_by (2 * q) p.two) (forward_by (3 * q) p.three) t)
given-added p (suc zero) q t few =
    let e : 1 * q ≡ q = omega arith in
    rw e (ap (λ z. plus p.zero (plus z (plus (forward_by (2 * q) p.two) (forward_by (3 * q) p.three)))) (forward-plus q p.one t)
    ∙ second_more p.zero (forward_by q p.one) (forward_by (2 * q) p.two) (forward_by (3 * q) p.three) (forward_by q t))
given-added p (suc (suc zero)) q t few =
    ap (λ z. plus p.zero (plus (forward_by q p.one) (plus z (forward_by (3 * q) p.three)))) (forward-plus (2 * q) p.two t)
    ∙ third_more p.zero (forward_by q p.one) (forward_by (2 * q) p.two) (forward_by (3 * q) p.three) (forward_by (2 * q) t)
given-added p (suc (suc (suc zero))) q t few =
    ap (λ z. plus p.zero (plus (forward_by q p.one) (plus (forward_by (2 * q) p.two) z))) (forward-plus (3 * q) p.three t)
    ∙ fourth_more p.zero (forward_by q p.one) (forward_by (2 * q) p.two) (forward_by (3 * q) p.three) (forward_by (3 * q) t)
given-added p (suc (suc (suc (suc r)))) q t few = absurd (omega (arith, few))

pub taken-unfolded : (p : Quartet) (q : ℕ) → q < 4 → taken (unfolded p) q ≡ given_at q p
taken-unfolded p zero few = refl
taken-unfolded p (suc zero) few = refl
taken-unfolded p (suc (suc zero)) few = refl
taken-unfolded p (suc (suc (suc zero))) few = refl
taken-unfolded p (suc (suc (suc (suc q)))) few = absurd (omega (arith, few))

-- adding 0 changes nothing
added_nothing : (t : Bool) (a : Cpx) → (if t then plus a nothing else a) ≡ a
added_nothing true a = pair (omega (arith, ints)) (omega (arith, ints))
added_nothing false a = refl

four : {a b c d x y z w : Cpx} → a ≡ x → b ≡ y → c ≡ z → d ≡ w → ◌≡◌ {A = Quartet} (record { zero = a; one = b; two = c; three = d }) (record { zero = x; one = y; two = z; three = w })
four e f g h = cc

pub added-nothing : (p : Quartet) (r : ℕ) → added p r nothing ≡ p
added-nothing p r = four (added_nothing (nat_eq r 0) p.zero) (added_nothing (nat_eq r 1) p.one) (added_nothing (nat_eq r 2) p.two) (added_nothing (nat_eq r 3) p.three)

zero_is : (x : ℤ) → nat_abs x ≤ 127 → of_z w64 x ≡ 0 → x ≡ pos 0
zero_is x small e = sym (to_z-of_z w64 x (fits_signed_from_abs w64 x (omega (arith, small)))) ∙ ap (to_z w64) e

pub nothing_is : (z : Cpx) → IsWithin 127 z → of_z w64 z.re ≡ 0 → of_z w64 z.im ≡ 0 → z ≡ nothing
nothing_is z small e f = pair (zero_is z.re small.re e) (zero_is z.im small.im f)

pub times-nothing : (v : Cpx) → times nothing v ≡ nothing
times-nothing v = pair (omega (arith, ints)) (omega (arith, ints))

pub given_at-empty : (q : ℕ) → q < 4 → given_at q empty_quartet ≡ nothing
unfolding given_at forward_by
given_at-empty zero few = refl
given_at-empty (suc zero) few = refl
given_at-empty (suc (suc zero)) few = refl
given_at-empty (suc (suc (suc zero))) few = refl
given_at-empty (suc (suc (suc (suc q)))) few = absurd (omega (arith, few))
