-- Quartets of folded samples: computing them with butterflies, and bounds on their sums.
use Rattle.std.proofs.Common.{◌≡◌, ℕ, zero, suc, ◌+◌, ◌-◌, ◌*◌, ◌%◌, ◌^◌, ◌<◌, ◌≤◌, arith, refl, subst, Bool, true, false, List, length, ℤ, neg_ℤ, ◌+ℤ◌, ◌*ℤ◌, nat_eq, nat_le, slice_index_or, FitsSigned, w64}
use Rattle.std.specs.Prelude.{All, nat_abs, if◌then◌else◌}
use Rattle.std.proofs.lemmas.Bool.Decides.{nat_tests}
use Rattle.std.proofs.lemmas.Int.{ints, unsigned_abs-mul, fits_signed_from_abs}
use Rattle.std.proofs.lemmas.Nat.{mul-le}
use Rattle.std.proofs.lemmas.Bool.{leb-true}
use Rattle.std.proofs.lemmas.List.Elements.{All-get_or}
use Rattle.finite.specs.Tests.{every_below}
use Rattle.finite.proofs.Tests.{every_below_at}
use Rattle.finite.proofs.Integers.{abs-sum, abs-difference, product_within}
use Rattle.cs_num.specs.declared.Cpx.{Cpx}
use Rattle.cs_num.specs.Complex.{IsWithin, largest_part, nothing, plus, times, conjugate, minus, times_j, times_minus_j}
use Rattle.cs_num.specs.Sums.{complex_sum_below}
use Rattle.cs_num.proofs.Complex.{pair, largest_part-le, plus-within, minus-within, times_j-within, within_more}
use Rattle.cs_num.proofs.Sums.{complex_sum_below-within}
use Rattle.fold128.specs.declared.quartet.Quartet.{Quartet}
use Rattle.fold128.specs.declared.spectrum.Mirror.{Mirror}
use Rattle.fold128.specs.Tables.{quarter, cosine, w_at}
use Rattle.fold128.specs.Folding.{back_by, seen_of_four, quartet_of, taken, empty_quartet, folded_term, AreWithin, opposite, mirrored, IsSmallMirror, forward_by, given_at, unfolded, added}
use Rattle.fold128.proofs.Entries.{w_period}

-- ---- the sum of an entry's component magnitudes

unfoldable pub entry_passes_at : ℕ → Bool
entry_passes_at m = nat_le (nat_abs (w_at m).re + nat_abs (w_at m).im) 23170

all_entries : every_below 128 entry_passes_at ≡ true
unfolding quarter cosine w_at entry_passes_at every_below
all_entries = refl

pub entry-le : (m : ℕ) → nat_abs (w_at m).re + nat_abs (w_at m).im ≤ 23170
unfolding entry_passes_at
entry-le m =
    let here = leb-true _ _ (every_below_at 128 entry_passes_at all_entries (m % 128) (omega arith)) in
    subst (λ (v : Cpx). nat_abs v.re + nat_abs v.im ≤ 23170) (w_period m) here

-- the product of two numbers is bounded by the second one's summed component magnitudes
product-within : (z v : Cpx) (m n : ℕ) → IsWithin m z → nat_abs v.re + nat_abs v.im ≤ n → IsWithin (m * n) (times z v)
product-within z v m n p h =
    let rr = mul-le (nat_abs z.re) (nat_abs v.re) m (nat_abs v.re) p.re (omega arith) in
    let ii = mul-le (nat_abs z.im) (nat_abs v.im) m (nat_abs v.im) p.im (omega arith) in
    let ri = mul-le (nat_abs z.re) (nat_abs v.im) m (nat_abs v.im) p.re (omega arith) in
    let ir = mul-le (nat_abs z.im) (nat_abs v.re) m (nat_abs v.re) p.im (omega arith) in
    let whole = mul-le m (nat_abs v.re + nat_abs v.im) m n (omega arith) h in
    record {
      re = omega (arith, unsigned_abs-mul z.re v.re, unsigned_abs-mul z.im v.im, abs-difference (z.re *ℤ v.re) (z.im *ℤ v.im));
      im = omega (arith, unsigned_abs-mul z.re v.im, unsigned_abs-mul z.im v.re, abs-sum (z.re *ℤ v.im) (z.im *ℤ v.re));
    }

pub turned_product-within : (z : Cpx) (m x : ℕ) → IsWithin m z → IsWithin (m * 23170) (times z (conjugate (w_at x)))
turned_product-within z m x p =
    let e = entry-le x in
    let h : nat_abs (w_at x).re + nat_abs (neg_ℤ (w_at x).im) ≤ 23170 = omega (arith, ints) in
    product-within z (conjugate (w_at x)) m 23170 p h

-- ---- quartets

pub back_by-within : (q n : ℕ) (z : Cpx) → IsWithin n z → IsWithin n (back_by q z)
unfolding back_by
back_by-within zero n z p = p
back_by-within (suc q) n z p = back_by-within q n (times_minus_j z) (record { re = p.im; im = omega (arith, ints, p.re) })

seen_of_four-within : (r : ℕ) (a b c d : Cpx) → IsWithin 32768 a → IsWithin 32768 b → IsWithin 32768 c → IsWithin 32768 d → IsWithin 131072 (seen_of_four r a b c d)
unfolding seen_of_four
seen_of_four-within r a b c d ha hb hc hd =
    let last = plus-within _ _ 32768 32768 65536 (back_by-within (2 * r) 32768 c hc) (back_by-within (3 * r) 32768 d hd) (omega arith) in
    let more = plus-within _ _ 32768 65536 98304 (back_by-within r 32768 b hb) last (omega arith) in
    plus-within _ _ 32768 98304 131072 ha more (omega arith)

pub quartet-small : (a b c d : Cpx) → IsWithin 32768 a → IsWithin 32768 b → IsWithin 32768 c → IsWithin 32768 d → AreWithin 131072 (quartet_of a b c d)
quartet-small a b c d ha hb hc hd = record {
  zero = seen_of_four-within 0 a b c d ha hb hc hd;
  one = seen_of_four-within 1 a b c d ha hb hc hd;
  two = seen_of_four-within 2 a b c d ha hb hc hd;
  three = seen_of_four-within 3 a b c d ha hb hc hd;
}

by_zero : (a b c d : Cpx) → plus (plus a c) (plus b d) ≡ seen_of_four 0 a b c d
unfolding seen_of_four back_by
by_zero a b c d = pair (omega (arith, ints)) (omega (arith, ints))

by_one : (a b c d : Cpx) → plus (minus a c) (times_minus_j (minus b d)) ≡ seen_of_four 1 a b c d
unfolding seen_of_four back_by
by_one a b c d = pair (omega (arith, ints)) (omega (arith, ints))

by_two : (a b c d : Cpx) → minus (plus a c) (plus b d) ≡ seen_of_four 2 a b c d
unfolding seen_of_four back_by
by_two a b c d = pair (omega (arith, ints)) (omega (arith, ints))

by_three : (a b c d : Cpx) → minus (minus a c) (times_minus_j (minus b d)) ≡ seen_of_four 3 a b c d
unfolding seen_of_four back_by
by_three a b c d = pair (omega (arith, ints)) (omega (arith, ints))

-- the sums and differences in the second pair of butterflies fit
pub sums-small : (n : ℕ) (a b c d : Cpx) → 4 * n < 2 ^ 63 → IsWithin n a → IsWithin n b → IsWithin n c → IsWithin n d → largest_part (plus a c) + largest_part (plus b d) < 2 ^ 63
sums-small n a b c d few ha hb hc hd =
    let s = largest_part-le _ _ (plus-within a c n n (n + n) ha hc (omega arith)) in
    let t = largest_part-le _ _ (plus-within b d n n (n + n) hb hd (omega arith)) in
    omega (arith, few, s, t)

back-within : (n : ℕ) (z : Cpx) → IsWithin n z → IsWithin n (times_minus_j z)
back-within n z p = record { re = p.im; im = omega (arith, ints, p.re) }

pub differences-small : (n : ℕ) (a b c d : Cpx) → 4 * n < 2 ^ 63 → IsWithin n a → IsWithin n b → IsWithin n c → IsWithin n d →
    largest_part (minus a c) + largest_part (times_minus_j (minus b d)) < 2 ^ 63
differences-small n a b c d few ha hb hc hd =
    let s = largest_part-le _ _ (minus-within a c n n (n + n) ha hc (omega arith)) in
    let t = largest_part-le _ _ (back-within (n + n) (minus b d) (minus-within b d n n (n + n) hb hd (omega arith))) in
    omega (arith, few, s, t)

pub forward_differences-small : (n : ℕ) (a b c d : Cpx) → 4 * n < 2 ^ 63 → IsWithin n a → IsWithin n b → IsWithin n c → IsWithin n d →
    largest_part (minus a c) + largest_part (times_j (minus b d)) < 2 ^ 63
forward_differences-small n a b c d few ha hb hc hd =
    let s = largest_part-le _ _ (minus-within a c n n (n + n) ha hc (omega arith)) in
    let t = largest_part-le _ _ (times_j-within (minus b d) (n + n) (minus-within b d n n (n + n) hb hd (omega arith))) in
    omega (arith, few, s, t)

-- four butterflies compute a quartet
pub by_butterflies : (a b c d : Cpx) →
    ◌≡◌ {A = Quartet}
    (record {
      zero = plus (plus a c) (plus b d);
      one = plus (minus a c) (times_minus_j (minus b d));
      two = minus (plus a c) (plus b d);
      three = minus (minus a c) (times_minus_j (minus b d));
    })
    (quartet_of a b c d)
by_butterflies a b c d =
    let e0 = by_zero a b c d in
    let e1 = by_one a b c d in
    let e2 = by_two a b c d in
    let e3 = by_three a b c d in
    cc

pub taken-small : (q : Quartet) (r : ℕ) → AreWithin 131072 q → r < 4 → IsWithin 131072 (taken q r)
taken-small q zero p l = p.zero
taken-small q (suc zero) p l = p.one
taken-small q (suc (suc zero)) p l = p.two
taken-small q (suc (suc (suc zero))) p l = p.three
taken-small q (suc (suc (suc (suc r)))) p l = absurd (omega arith)

-- ---- folded sums

pub folded_term-within : (folded : List Quartet) (f m : ℕ) → All (AreWithin 131072) folded → m < length folded → IsWithin 3036938240 (folded_term folded f m)
folded_term-within folded f m small l =
    let q = All-get_or (AreWithin 131072) folded m empty_quartet l small in
    turned_product-within (taken (slice_index_or folded m empty_quartet) (f % 4)) 131072 (f * m) (taken-small (slice_index_or folded m empty_quartet) (f % 4) q (omega arith))

pub folded_sum-within : (folded : List Quartet) (f m : ℕ) → All (AreWithin 131072) folded → m ≤ length folded → IsWithin (m * 3036938240) (complex_sum_below m (folded_term folded f))
folded_sum-within folded f m small l = complex_sum_below-within m 3036938240 (folded_term folded f) (λ k below. folded_term-within folded f k small (omega arith))

-- ---- the indices m and 32 - m combined

pub opposite-within : (folded : List Quartet) (r m : ℕ) → All (AreWithin 131072) folded → length folded ≡ 32 → r < 4 → m ≤ 16 → IsWithin 131072 (opposite folded r m)
opposite-within folded r m small long few inside = settle (nat_eq (m % 16) 0) refl
  where
    settle : (b : Bool) → nat_eq (m % 16) 0 ≡ b → IsWithin 131072 (if b then nothing else back_by r (taken (slice_index_or folded (32 - m) empty_quartet) r))
    settle true e = record { re = omega arith; im = omega arith }
    settle false e =
        let there : 32 - m < length folded = grind (arith, nat_tests) in
        back_by-within r 131072 _ (taken-small _ r (All-get_or (AreWithin 131072) folded (32 - m) empty_quartet there small) few)

pub mirror-small : (here opposite : Cpx) → IsWithin 131072 here → IsWithin 131072 opposite → IsSmallMirror (record { real = plus here opposite; imaginary = times_minus_j (minus here opposite) })
mirror-small here opposite p q = record {
  real = plus-within here opposite 131072 131072 262144 p q (omega arith);
  imaginary = back-within 262144 (minus here opposite) (minus-within here opposite 131072 131072 262144 p q (omega arith));
}

-- the bound on one component of a combined term's contribution
pub component-small : (a b c d : ℤ) → nat_abs a ≤ 262144 → nat_abs b ≤ 16384 → nat_abs c ≤ 262144 → nat_abs d ≤ 16384 → nat_abs (a *ℤ b +ℤ c *ℤ d) ≤ 8589934592
component-small a b c d ha hb hc hd =
    let p = product_within a b 262144 16384 4294967296 ha hb (omega arith) in
    let q = product_within c d 262144 16384 4294967296 hc hd (omega arith) in
    omega (arith, p, q, abs-sum (a *ℤ b) (c *ℤ d))

-- the products and the sum in one component fit 64 bits
pub record ComponentFits (a b c d : ℤ) : Type 0 where
  pub first : FitsSigned w64 (a *ℤ b)
  pub second : FitsSigned w64 (c *ℤ d)
  pub total : FitsSigned w64 (a *ℤ b +ℤ c *ℤ d)

pub component-fits : (a b c d : ℤ) → nat_abs a ≤ 262144 → nat_abs b ≤ 16384 → nat_abs c ≤ 262144 → nat_abs d ≤ 16384 → ComponentFits a b c d
component-fits a b c d ha hb hc hd =
    let p = product_within a b 262144 16384 4294967296 ha hb (omega arith) in
    let q = product_within c d 262144 16384 4294967296 hc hd (omega arith) in
    let t = component-small a b c d ha hb hc hd in
    record {
      first = fits_signed_from_abs w64 _ (omega (arith, p));
      second = fits_signed_from_abs w64 _ (omega (arith, q));
      total = fits_signed_from_abs w64 _ (omega (arith, t));
    }

pub mirrored-within : (p : Mirror) (w : Cpx) → IsSmallMirror p → IsWithin 16384 w → IsWithin 8589934592 (mirrored p w)
mirrored-within p w small h = record {
  re = component-small p.real.re w.re p.imaginary.re w.im small.real.re h.re small.imaginary.re h.im;
  im = component-small p.real.im w.re p.imaginary.im w.im small.real.im h.re small.imaginary.im h.im;
}

-- ---- synthesis

forward_by-within : (q n : ℕ) (z : Cpx) → IsWithin n z → IsWithin n (forward_by q z)
unfolding forward_by
forward_by-within zero n z p = p
forward_by-within (suc q) n z p = forward_by-within q n (times_j z) (times_j-within z n p)

given_at-within : (q n : ℕ) (p : Quartet) → AreWithin n p → IsWithin (4 * n) (given_at q p)
unfolding given_at
given_at-within q n p small =
    let last = plus-within _ _ n n (2 * n) (forward_by-within (2 * q) n p.two small.two) (forward_by-within (3 * q) n p.three small.three) (omega arith) in
    let more = plus-within _ _ n (2 * n) (3 * n) (forward_by-within q n p.one small.one) last (omega arith) in
    plus-within _ _ n (3 * n) (4 * n) small.zero more (omega arith)

pub unfolded-within : (n : ℕ) (p : Quartet) → AreWithin n p → AreWithin (4 * n) (unfolded p)
unfolded-within n p small = record {
  zero = given_at-within 0 n p small;
  one = given_at-within 1 n p small;
  two = given_at-within 2 n p small;
  three = given_at-within 3 n p small;
}

gives_zero : (a b c d : Cpx) → plus (plus a c) (plus b d) ≡ given_at 0 (record { zero = a; one = b; two = c; three = d })
unfolding given_at forward_by
gives_zero a b c d = pair (omega (arith, ints)) (omega (arith, ints))

gives_one : (a b c d : Cpx) → plus (minus a c) (times_j (minus b d)) ≡ given_at 1 (record { zero = a; one = b; two = c; three = d })
unfolding given_at forward_by
gives_one a b c d = pair (omega (arith, ints)) (omega (arith, ints))

gives_two : (a b c d : Cpx) → minus (plus a c) (plus b d) ≡ given_at 2 (record { zero = a; one = b; two = c; three = d })
unfolding given_at forward_by
gives_two a b c d = pair (omega (arith, ints)) (omega (arith, ints))

gives_three : (a b c d : Cpx) → minus (minus a c) (times_j (minus b d)) ≡ given_at 3 (record { zero = a; one = b; two = c; three = d })
unfolding given_at forward_by
gives_three a b c d = pair (omega (arith, ints)) (omega (arith, ints))

-- four butterflies compute four samples
pub by_forward_butterflies : (a b c d : Cpx) →
    ◌≡◌ {A = Quartet}
    (record {
      zero = plus (plus a c) (plus b d);
      one = plus (minus a c) (times_j (minus b d));
      two = minus (plus a c) (plus b d);
      three = minus (minus a c) (times_j (minus b d));
    })
    (unfolded (record { zero = a; one = b; two = c; three = d }))
by_forward_butterflies a b c d =
    let e0 = gives_zero a b c d in
    let e1 = gives_one a b c d in
    let e2 = gives_two a b c d in
    let e3 = gives_three a b c d in
    cc

added_number : (t : Bool) (a z : Cpx) (m n : ℕ) → IsWithin m a → IsWithin n z → IsWithin (m + n) (if t then plus a z else a)
added_number true a z m n p q = plus-within a z m n (m + n) p q (omega arith)
added_number false a z m n p q = within_more a m (m + n) p (omega arith)

pub added-within : (p : Quartet) (r : ℕ) (z : Cpx) (m n : ℕ) → AreWithin m p → IsWithin n z → AreWithin (m + n) (added p r z)
added-within p r z m n small h = record {
  zero = added_number (nat_eq r 0) p.zero z m n small.zero h;
  one = added_number (nat_eq r 1) p.one z m n small.one h;
  two = added_number (nat_eq r 2) p.two z m n small.two h;
  three = added_number (nat_eq r 3) p.three z m n small.three h;
}

pub are-more : (m n : ℕ) (p : Quartet) → AreWithin m p → m ≤ n → AreWithin n p
are-more m n p small more = record {
  zero = within_more p.zero m n small.zero more;
  one = within_more p.one m n small.one more;
  two = within_more p.two m n small.two more;
  three = within_more p.three m n small.three more;
}
