-- The transmitted pair's score: each term is above 0, so no other sequence agrees as well.
use Rattle.std.proofs.Common.{◌≡◌, ℕ, zero, suc, ◌+◌, ◌-◌, ◌*◌, ◌%◌, ◌^◌, ◌<◌, ◌≤◌, ◌⊎◌, inl, inr, neg_ℤ, arith, refl, ap, ap₂, sym, ◌∙◌, subst, Bool, true, false, nat_le, nat_lt, ℤ, pos, negsuc, ◌-ℤ◌, ◌*ℤ◌, ◌<ℤ◌, ◌≤ℤ◌, int_lt, mul-le-mul_left, mul-le-mul_right, List}
use Rattle.std.specs.Prelude.{◌&&◌, if◌then◌else◌, nat_abs}
use Rattle.std.proofs.lemmas.Int.{ints, unsigned_abs-mul}
use Rattle.std.proofs.lemmas.Bool.{leb-true, and_parts}
use Rattle.std.proofs.lemmas.Bool.Decides.{nat_tests}
use Rattle.finite.specs.Tests.{every_below}
use Rattle.finite.proofs.Tests.{every_below_at}
use Rattle.finite.proofs.Lists.{values_below_same}
use Rattle.finite.proofs.Ring.{var, lit, same}
use Rattle.finite.proofs.Ring as ring
use Rattle.finite.proofs.Integers.{lt-le, lt-not_le}
use Rattle.cs_num.specs.declared.Cpx.{Cpx}
use Rattle.cs_num.specs.declared.Sample.{Sample}
use Rattle.cs_num.specs.Complex.{IsWithin, nothing, plus, times, conjugate, square, minus, multiple}
use Rattle.lte_types.specs.declared.numerology.Prefix.{Prefix}
use Rattle.lte_types.specs.declared.frame.Half.{Half}
use Rattle.lte_types.specs.declared.frame.Half.TheVariants.{Zero, Five}
use Rattle.lte_types.specs.Numerology.{symbol_step}
use Rattle.norms.specs.Magnitudes.{IsBounded}
use Rattle.norms.proofs.Squares.{square-multiple, square-conjugate}
use Rattle.norms.proofs.Algebra.{multiple-plus, multiple-times, multiple_twice}
use Rattle.norms.proofs.Bounded.{sized_plain, bounded-times}
use Rattle.norms.proofs.Products.{product_near, sign-turns}
use Rattle.norms.proofs.Sums.{terms_same}
use Rattle.fold128.specs.Tables.{z_real, z_imaginary, z_at}
use Rattle.fold128.proofs.Laws.{z_same}
use Rattle.sync_seq.specs.Primary.{pss_at}
use Rattle.sync_seq.specs.Secondary.{sss_at, sss_list}
use Rattle.sync_seq.proofs.SecondaryValues.{sss-size}
use Rattle.sync_seq.proofs.Distinct.{secondary_determines}
use Rattle.sss_detect.specs.Scores.{agreement, score}
use Rattle.sss_detect.specs.Identity.{IsBefore, IsBest, prefix_identity}
use Rattle.sss_detect.proofs.Choices.{less, not_less, only_one_is_best}
use Rattle.observe.specs.Seen.{seen}
use Rattle.pss_search.specs.Correlation.{pss_grid}
use Rattle.budget.specs.Received.{AreAmplitudes, in_parts, IsSeenAs, IsSeenNear}
use Rattle.budget.specs.Score.{AreSeen, AreSignals, TermsArePositive, SentPairIsGreatest, SentPairIsBest, SentPairIsIdentified, sss_grid}
use Rattle.budget.specs.Score.{LeaveTermsRoom, PairStandsAlone, SentPairStandsAlone, SentPairIsIdentifiedThrough, OneGainLeavesTermsRoom, OneGainIsSeenThrough}
use Rattle.budget.specs.Through.{Bounds}
use Rattle.sync_seq.specs.Secondary.{sss_amplitude}
use Rattle.budget.proofs.Parts.{product-multiples, product_in_parts}
use Rattle.budget.proofs.Deviations.{deviation, deviation-bounded, channel_is}
use Rattle.budget.proofs.Through.{channel-some, seen-fits, seen_part}
use Rattle.budget.proofs.Seen.{amplitude_is_seen_in_recording}

-- ---- magnitudes of the sequences

unfoldable z_sized : ℕ → Bool
z_sized m = nat_le 16000 (square (z_at m)) && nat_le (square (z_at m)) 16384

all_sized : every_below 63 z_sized ≡ true
unfolding z_real z_imaginary z_at z_sized every_below
all_sized = refl

record HasZMagnitude (w : ℕ) : Type 0 where
  pub least : 16000 ≤ w
  pub most : w ≤ 128 * 128

z-size : (m : ℕ) → HasZMagnitude (square (z_at m))
z-size m = subst (λ (z : Cpx). HasZMagnitude (square z)) (z_same (m % 63) m (omega arith)) (low (m % 63) (omega arith))
  where
    low : (m : ℕ) → m < 63 → HasZMagnitude (square (z_at m))
    low m l =
        let test : (nat_le 16000 (square (z_at m)) && nat_le (square (z_at m)) 16384) ≡ true = (unfold z_sized in every_below_at 63 z_sized all_sized m l) in
        let parts = and_parts _ _ test in
        record { least = leb-true _ _ parts.0; most = leb-true _ _ parts.1 }

pss-size : (n2 n : ℕ) → HasZMagnitude (square (pss_at n2 n))
unfolding pss_at
pss-size n2 n = z-size _

-- ---- one term

unit_square : (u : ℕ) (s : ℤ) → nat_abs s ≡ 1 → square (multiple u (multiple 64 (record { re = pos 127 *ℤ s; im = pos 0 }))) ≤ 8128 * u * (8128 * u)
unit_square u s unit =
    let a : nat_abs (pos 127 *ℤ s) ≡ 127 = unsigned_abs-mul (pos 127) s ∙ ap (λ m. 127 * m) unit in
    let b : square (multiple 64 (record { re = pos 127 *ℤ s; im = pos 0 })) ≤ 8128 * 8128 = rw (square-multiple 64 (record { re = pos 127 *ℤ s; im = pos 0 })) (rw a (omega arith)) in
    scaled (square (multiple u (multiple 64 (record { re = pos 127 *ℤ s; im = pos 0 })))) (square (multiple 64 (record { re = pos 127 *ℤ s; im = pos 0 })))
    (square-multiple u (multiple 64 (record { re = pos 127 *ℤ s; im = pos 0 }))) b
  where
    scaled : (t q : ℕ) → t ≡ u * u * q → q ≤ 8128 * 8128 → t ≤ 8128 * u * (8128 * u)
    scaled t q same h =
        let k : u * u * q ≤ u * u * (8128 * 8128) = mul-le-mul_left (u * u) h in
        omega (arith, same, k)

-- The main part of a term is 8128 times `main`, and its deviation is at most `off`; w is the primary signal's squared
-- amplitude, v the channel's square.
main : ℕ → ℕ → ℕ → ℕ
main least w v = least * (64 * w) * v * least

off : ℕ → ℕ → ℕ → ℕ → ℕ
off most least w v = (8128 * least * (128000 * most) + 1000 * most * (least * (64 * w) + 128000 * most)) * v

outweighs : (most least w v : ℕ) → LeaveTermsRoom most least → 16000 ≤ w → 1 ≤ v → off most least w v < 8128 * main least w v
unfolding main off
outweighs most least w v room amplitude some =
    let more : (w - 16000) * (least * (1000 * most)) ≤ (w - 16000) * (least * (8128 * least)) = mul-le-mul_left (w - 16000) (mul-le-mul_left least slower) in
    let all : (8128 * least * (128000 * most) + 1000 * most * (least * (64 * w) + 128000 * most) + 1) * v ≤ 8128 * (least * (64 * w) * least) * v =
    mul-le-mul_right v (one (w - 16000) w (omega (arith, amplitude)) more) in
    omega (arith, all, some)
  where
    lower : (a b : ℕ) → (a ≤ b) ⊎ (b ≤ a)
    lower a b = grind arith

    slower : 1000 * most ≤ 8128 * least
    slower = elim (lower (1000 * most) (8128 * least)) [
      | inl less ↦ less
      | inr more ↦ absurd (let all : least * (8128 * least) ≤ least * (1000 * most) = mul-le-mul_left least more in omega (arith, all, room))
    ]

    one : (rest w : ℕ) → rest + 16000 ≡ w → rest * (least * (1000 * most)) ≤ rest * (least * (8128 * least)) →
        8128 * least * (128000 * most) + 1000 * most * (least * (64 * w) + 128000 * most) + 1 ≤ 8128 * (least * (64 * w) * least)
    one rest w same more = subst (λ (w : ℕ). 8128 * least * (128000 * most) + 1000 * most * (least * (64 * w) + 128000 * most) + 1 ≤ 8128 * (least * (64 * w) * least)) same (omega (arith, more, room))

above_nothing : (k o : ℕ) (x : ℤ) → o < 8128 * k → nat_abs (x -ℤ pos k *ℤ pos 8128) ≤ o → pos 0 <ℤ x
above_nothing k o x less h = omega (arith, ints)

regrouped : (x s : ℤ) → x *ℤ (pos 64 *ℤ (pos 127 *ℤ s)) ≡ x *ℤ pos 8128 *ℤ s
regrouped x s = same (ring.times (var x) (ring.times (lit 64) (ring.times (lit 127) (var s)))) (ring.times (ring.times (var x) (lit 8128)) (var s)) (omega arith)

-- a number is above 0 if a multiple of it is
positive_by : (m : ℕ) (s x : ℤ) → pos 0 <ℤ (s *ℤ (pos m *ℤ x)) → pos 0 <ℤ (s *ℤ x)
positive_by m s x h = less (s *ℤ x) (subst (λ y. pos 0 <ℤ y) out h)
  where
    out : s *ℤ (pos m *ℤ x) ≡ pos m *ℤ (s *ℤ x)
    out = same (ring.times (var s) (ring.times (var (pos m)) (var x))) (ring.times (var (pos m)) (ring.times (var s) (var x))) (omega arith)

    less : (y : ℤ) → pos 0 <ℤ (pos m *ℤ y) → pos 0 <ℤ y
    less (pos zero) h = absurd (omega (arith, ints))
    less (pos (suc n)) h = omega (arith, ints)
    less (negsuc n) h = absurd (omega (arith, ints))

one_term : (most least n : ℕ) (g d p q : Cpx) (s : ℤ) → LeaveTermsRoom most least → 1 ≤ n → least * least * n ≤ 1000000 * square g → HasZMagnitude (square d) → nat_abs s ≡ 1 → IsSeenNear most n (times g d) p →
    IsSeenNear most n (times g (record { re = pos 127 *ℤ s; im = pos 0 })) q → pos 0 <ℤ (s *ℤ (times q (conjugate (times p (conjugate d)))).re)
unfolding main off
one_term most least n g d p q s room some reads size unit primary secondary =
    positive_by scale s z.re
    (above_nothing (main least (square d) v) (off most least (square d) v) (s *ℤ (pos scale *ℤ z.re)) (outweighs most least (square d) v room size.least (channel-some bounds n v reads some (least-some least room)))
    (sign-turns s (pos scale *ℤ z.re) (pos (main least (square d) v) *ℤ pos 8128) _ unit
    (subst (λ x. nat_abs (pos scale *ℤ z.re -ℤ x) ≤ off most least (square d) v) (regrouped (pos (main least (square d) v)) s) near.re)))
  where
    -- only two of the bounds count here
    bounds : Bounds
    bounds = record { most = most; least = least; mean = 0; bend = 0 }

    v : ℕ
    v = square g

    a : Cpx
    a = record { re = pos 127 *ℤ s; im = pos 0 }

    turned : Cpx
    turned = times p (conjugate d)

    z : Cpx
    z = times q (conjugate (times p (conjugate d)))

    scale : ℕ
    scale = least * least * 268435456

    least-some : (least : ℕ) → LeaveTermsRoom most least → 1 ≤ least
    least-some zero room = absurd (omega (arith, room))
    least-some (suc k) room = omega arith

    seen-off : (amplitude seen : Cpx) → IsSeenNear most n (times g amplitude) seen → IsBounded (1000 * most) v (multiple least (deviation g amplitude seen))
    seen-off amplitude seen is = record {
      bounded = seen-fits bounds n v reads (square (deviation g amplitude seen)) (square (multiple least (deviation g amplitude seen))) (square-multiple least (deviation g amplitude seen))
          (deviation-bounded most n g amplitude seen is).bounded;
    }

    e : Cpx
    e = times (multiple least (deviation g d p)) (conjugate d)

    units : (m : ℕ) → 1000 * m * 128 ≡ 128000 * m
    units m = omega arith

    once : (n : ℕ) → n * 1 ≡ n
    once n = omega arith

    e_sized : IsBounded (128000 * most) v e
    e_sized = subst (λ (m : ℕ). IsBounded m v e) (units most) (subst (λ (n : ℕ). IsBounded (1000 * most * 128) n e) (once v)
        (bounded-times (multiple least (deviation g d p)) (conjugate d) (1000 * most) 128 v 1 (seen-off d p primary)
        (sized_plain (conjugate d) 128 (subst (λ (n : ℕ). n ≤ 128 * 128) (sym (square-conjugate d)) size.most))))

    channel_part : multiple least (in_parts turned) ≡ plus (multiple (least * (64 * square d)) g) e
    channel_part =
        ap (multiple least) (channel_is g d p) ∙ multiple-plus least (multiple (64 * square d) g) (times (deviation g d p) (conjugate d))
        ∙ ap₂ (λ (x y : Cpx). plus x y) (multiple_twice least (64 * square d) g) (sym (multiple-times least (deviation g d p) (conjugate d)))

    products : times (multiple least (in_parts q)) (conjugate (multiple least (in_parts turned))) ≡ multiple scale z
    products =
        product-multiples least least (in_parts q) (in_parts turned) ∙ ap (multiple (least * least)) (product_in_parts q turned)
        ∙ multiple_twice (least * least) 268435456 z

    close : IsWithin (off most least (square d) v)
        (minus (times (plus (times g (multiple least (multiple 64 a))) (multiple least (deviation g a q))) (conjugate (plus (multiple (least * (64 * square d)) g) e)))
        (multiple (least * (64 * square d) * v) (multiple least (multiple 64 a))))
    close = product_near g (multiple least (multiple 64 a)) (multiple least (deviation g a q)) e (least * (64 * square d)) (8128 * least) (1000 * most) (128000 * most)
        (unit_square least s unit) (seen-off a q secondary) e_sized

    near : IsWithin (off most least (square d) v) (minus (multiple scale z) (multiple (main least (square d) v) (multiple 64 a)))
    near =
        subst (λ (y : Cpx). IsWithin (off most least (square d) v) (minus (multiple scale z) y)) (multiple_twice (least * (64 * square d) * v) least (multiple 64 a))
        (subst (λ (y : Cpx). IsWithin (off most least (square d) v) (minus y (multiple (least * (64 * square d) * v) (multiple least (multiple 64 a)))))
        (ap₂ (λ (x y : Cpx). times x (conjugate y)) (sym (seen_part least g a q)) (sym channel_part) ∙ products) close)

-- ---- all pairs

-- no other sign gives more
no_more : (s o x : ℤ) → nat_abs s ≡ 1 → nat_abs o ≡ 1 → pos 0 <ℤ (s *ℤ x) → (o *ℤ x) ≤ℤ (s *ℤ x)
no_more s o x p q some = compare (o *ℤ x) (s *ℤ x) (unsigned_abs-mul o x) (unsigned_abs-mul s x) some
  where
    compare : (y z : ℤ) → nat_abs y ≡ nat_abs o * nat_abs x → nat_abs z ≡ nat_abs s * nat_abs x → pos 0 <ℤ z → y ≤ℤ z
    compare y z e f h =
        let a : nat_abs o * nat_abs x ≡ 1 * nat_abs x = ap (λ m. m * nat_abs x) q in
        let b : nat_abs s * nat_abs x ≡ 1 * nat_abs x = ap (λ m. m * nat_abs x) p in
        let c : nat_abs y ≡ nat_abs z = e ∙ a ∙ sym b ∙ sym f in
        omega (arith, ints)

sign_cases : (s : ℤ) → nat_abs s ≡ 1 → (s ≡ pos 1) ⊎ (s ≡ negsuc 0)
sign_cases (pos n) e = inl (ap pos e)
sign_cases (negsuc n) e = let z : n ≡ 0 = omega (arith, e) in inr (ap negsuc z)

opposite : (x : ℤ) → pos 0 <ℤ (pos 1 *ℤ x) → negsuc 0 *ℤ x ≡ pos 1 *ℤ x → ⊥
opposite x h e = clash (pos 1 *ℤ x) (negsuc 0 *ℤ x) h e (same (ring.times (ring.minus_one (lit 1)) (var x)) (ring.minus_one (ring.times (lit 1) (var x))) (omega arith))
  where
    clash : (a b : ℤ) → pos 0 <ℤ a → b ≡ a → b ≡ neg_ℤ a → ⊥
    clash a b p q r = absurd (omega (arith, ints))

opposite_too : (x : ℤ) → pos 0 <ℤ (negsuc 0 *ℤ x) → pos 1 *ℤ x ≡ negsuc 0 *ℤ x → ⊥
opposite_too x h e = clash (pos 1 *ℤ x) (negsuc 0 *ℤ x) h e (same (ring.times (ring.minus_one (lit 1)) (var x)) (ring.minus_one (ring.times (lit 1) (var x))) (omega arith))
  where
    clash : (a b : ℤ) → pos 0 <ℤ b → a ≡ b → b ≡ neg_ℤ a → ⊥
    clash a b p q r = absurd (omega (arith, ints))

same_sign : (s o x : ℤ) → nat_abs s ≡ 1 → nat_abs o ≡ 1 → pos 0 <ℤ (s *ℤ x) → o *ℤ x ≡ s *ℤ x → o ≡ s
same_sign s o x p q = elim (sign_cases s p) [
  | inl a ↦ elim (sign_cases o q) [ inl b ↦ (λ h e. b ∙ sym a) | inr b ↦ rw (a, b) (λ h e. absurd (opposite x h e)) ]
  | inr a ↦ elim (sign_cases o q) [ inl b ↦ rw (a, b) (λ h e. absurd (opposite_too x h e)) | inr b ↦ (λ h e. b ∙ sym a) ]
]

-- a pair that scores no less is the one whose terms are above 0
tells : (n1 n2 : ℕ) (half : Half) (pss_seen sss_seen : ℕ → Cpx) → n1 ≤ 167 → n2 ≤ 2 → ((n : ℕ) → n < 62 → pos 0 <ℤ (sss_at n1 n2 half n *ℤ agreement pss_seen sss_seen n2 n)) →
    (m : ℕ) (other : Half) → m ≤ 167 → score pss_seen sss_seen n2 n1 half ≤ℤ score pss_seen sss_seen n2 m other → (m ≡ n1) × (other ≡ half)
unfolding score
tells n1 n2 half pss_seen sss_seen group root some m other l no_less = secondary_determines n2 m n1 other half root l group lists
  where
    c : ℕ → ℤ
    c n = agreement pss_seen sss_seen n2 n

    term : (n : ℕ) → n < 62 → sss_at m n2 other n *ℤ c n ≡ sss_at n1 n2 half n *ℤ c n
    term = terms_same 62 (λ n. sss_at m n2 other n *ℤ c n) (λ n. sss_at n1 n2 half n *ℤ c n)
        (λ n b. no_more (sss_at n1 n2 half n) (sss_at m n2 other n) (c n) (sss-size n1 n2 half n) (sss-size m n2 other n) (some n b)) no_less

    lists : sss_list m n2 other ≡ sss_list n1 n2 half
    lists = unfold sss_list in values_below_same 62 (sss_at m n2 other) (sss_at n1 n2 half)
        (λ n b. same_sign (sss_at n1 n2 half n) (sss_at m n2 other n) (c n) (sss-size n1 n2 half n) (sss-size m n2 other n) (some n b) (term n b))

less_or_not : (a b : ℤ) → (a <ℤ b) ⊎ (b ≤ℤ a)
less_or_not a b = settle (int_lt a b) refl
  where
    settle : (c : Bool) → int_lt a b ≡ c → (a <ℤ b) ⊎ (b ≤ℤ a)
    settle true e = inl (less a b e)
    settle false e = inr (not_less a b e)

not_before_itself : (n : ℕ) (half : Half) → IsBefore n half n half → ⊥
not_before_itself n Zero h = omega (arith, h)
not_before_itself n Five h = omega (arith, h)

pub sent_pair_stands_alone : SentPairStandsAlone
sent_pair_stands_alone most least n gain n1 n2 half pss_seen sss_seen room seen = record {
  terms = terms;
  greatest = λ m other l apart. elim (less_or_not (points m other) (points n1 half)) [
    | inl less ↦ less
    | inr no_less ↦ absurd (apart (decoded m other l no_less))
  ];
  best = let only = only_one_is_best points n1 half is_best in ap₂ (λ (n : ℕ) (h : Half). let pair : ℕ × Half = (n, h) in pair) (sym only.0) (sym only.1);
}
  where
    points : ℕ → Half → ℤ
    points = score pss_seen sss_seen n2

    terms : (k : ℕ) → k < 62 → pos 0 <ℤ (sss_at n1 n2 half k *ℤ agreement pss_seen sss_seen n2 k)
    terms k l =
        one_term most least n (gain (k + 5)) (pss_at n2 k) (pss_seen (k + 5)) (sss_seen (k + 5)) (sss_at n1 n2 half k) room seen.sounds (seen.reads k l) (pss-size n2 k) (sss-size n1 n2 half k)
        (seen.primary k l) (seen.secondary k l)

    decoded : (m : ℕ) (other : Half) → m ≤ 167 → score pss_seen sss_seen n2 n1 half ≤ℤ score pss_seen sss_seen n2 m other → (m ≡ n1) × (other ≡ half)
    decoded = tells n1 n2 half pss_seen sss_seen seen.group seen.root terms

    itself : (a : ℤ) → a ≤ℤ a
    itself a = omega (arith, ints)

    is_best : IsBest (score pss_seen sss_seen n2) n1 half
    is_best = record {
      known = seen.group;
      greatest = λ m other l. elim (less_or_not (points n1 half) (points m other)) [
        | inl more ↦ absurd (let same = decoded m other l (lt-le (points n1 half) (points m other) more) in
            lt-not_le (points n1 half) (points m other) more (subst (λ (k : ℕ). points m other ≤ℤ points k half) same.0 (subst (λ (h : Half). points m other ≤ℤ points m h) same.1 (itself (points m other)))))
        | inr no_more ↦ no_more
      ];
      first = λ m other l before. elim (less_or_not (points m other) (points n1 half)) [
        | inl less ↦ less
        | inr no_less ↦ absurd (let same = decoded m other l no_less in
            not_before_itself n1 half (subst (λ (k : ℕ). IsBefore k half n1 half) same.0 (subst (λ (h : Half). IsBefore m h n1 half) same.1 before)))
      ];
    }

pub sent_pair_is_identified_through : SentPairIsIdentifiedThrough
unfolding prefix_identity
sent_pair_is_identified_through most least n gain prefix recording hit n1 half room both =
    (sent_pair_stands_alone most least n gain n1 hit.n2 half (seen recording hit.t) (seen recording (hit.t - symbol_step prefix)) room both).best

-- ---- one gain

pub one_gain_leaves_terms_room : OneGainLeavesTermsRoom
one_gain_leaves_terms_room = omega arith

pub one_gain_is_seen_through : OneGainIsSeenThrough
one_gain_is_seen_through gain n1 n2 half pss_seen sss_seen seen = record {
  group = seen.group;
  root = seen.root;
  sounds = some (square gain) seen.sounds;
  reads = λ k l. itself (square gain);
  primary = seen.primary;
  secondary = seen.secondary;
}
  where
    some : (n : ℕ) → 2 ^ 28 ≤ n → 1 ≤ n
    some n h = omega (arith, h)

    itself : (n : ℕ) → 1000 * 1000 * n ≤ 1000000 * n
    itself n = omega arith

stands_alone : (gain : Cpx) (n1 n2 : ℕ) (half : Half) (pss_seen sss_seen : ℕ → Cpx) → AreSeen gain n1 n2 half pss_seen sss_seen → PairStandsAlone n1 n2 half pss_seen sss_seen
stands_alone gain n1 n2 half pss_seen sss_seen seen =
    sent_pair_stands_alone 2316 1000 (square gain) (λ k. gain) n1 n2 half pss_seen sss_seen one_gain_leaves_terms_room (one_gain_is_seen_through gain n1 n2 half pss_seen sss_seen seen)

pub terms_are_positive : TermsArePositive
terms_are_positive gain n1 n2 half pss_seen sss_seen seen = (stands_alone gain n1 n2 half pss_seen sss_seen seen).terms

pub sent_pair_is_greatest : SentPairIsGreatest
sent_pair_is_greatest gain n1 n2 half pss_seen sss_seen seen = (stands_alone gain n1 n2 half pss_seen sss_seen seen).greatest

pub sent_pair_is_best : SentPairIsBest
sent_pair_is_best gain n1 n2 half pss_seen sss_seen seen = (stands_alone gain n1 n2 half pss_seen sss_seen seen).best

-- ---- in a recording

pub pss_in_grid : (n2 n : ℕ) → n < 62 → pss_grid n2 (n + 5) ≡ pss_at n2 n
pss_in_grid n2 n l =
    let a : nat_lt (n + 5) 5 ≡ false = grind (arith, nat_tests) in
    let b : nat_lt (n + 5) 67 ≡ true = grind (arith, nat_tests) in
    let c : n + 5 - 5 ≡ n = omega arith in
    rw (a, b, c) refl

pub sss_in_grid : (n1 n2 : ℕ) (half : Half) (n : ℕ) → n < 62 → sss_grid n1 n2 half (n + 5) ≡ sss_amplitude n1 n2 half n
sss_in_grid n1 n2 half n l =
    let a : nat_lt (n + 5) 5 ≡ false = grind (arith, nat_tests) in
    let b : nat_lt (n + 5) 67 ≡ true = grind (arith, nat_tests) in
    let c : n + 5 - 5 ≡ n = omega arith in
    rw (a, b, c) refl

amplitude_small : (n1 n2 : ℕ) (half : Half) (n : ℕ) → square (sss_amplitude n1 n2 half n) ≤ 128 * 128
amplitude_small n1 n2 half n =
    let a : nat_abs (pos 127 *ℤ sss_at n1 n2 half n) ≡ 127 = unsigned_abs-mul (pos 127) (sss_at n1 n2 half n) ∙ ap (λ m. 127 * m) (sss-size n1 n2 half n) in
    rw a (omega arith)

in_middle : (f : ℕ → Cpx) (k : ℕ) → ((n : ℕ) → square (f n) ≤ 128 * 128) → square (if nat_lt k 5 then nothing else if nat_lt k 67 then f (k - 5) else nothing) ≤ 128 * 128
in_middle f k small = first (nat_lt k 5)
  where
    second : (b : Bool) → square (if b then f (k - 5) else nothing) ≤ 128 * 128
    second true = small (k - 5)
    second false = omega arith

    first : (b : Bool) → square (if b then nothing else if nat_lt k 67 then f (k - 5) else nothing) ≤ 128 * 128
    first true = omega arith
    first false = second (nat_lt k 67)

pub amplitude : (s : ℕ) → s ≤ 128 * 128 → s ≤ 256 * 256
amplitude s h = omega (arith, h)

pub pss_amplitudes : (n2 : ℕ) → AreAmplitudes (pss_grid n2)
pss_amplitudes n2 k l = amplitude _ (in_middle (pss_at n2) k (λ n. (pss-size n2 n).most))

pub sss_amplitudes : (n1 n2 : ℕ) (half : Half) → AreAmplitudes (sss_grid n1 n2 half)
sss_amplitudes n1 n2 half k l = amplitude _ (in_middle (sss_amplitude n1 n2 half) k (amplitude_small n1 n2 half))

-- signals received with one gain are demodulated with it
pub signals_are_seen : (prefix : Prefix) (recording : List Sample) (t n1 n2 : ℕ) (half : Half) (both : AreSignals prefix recording t n1 n2 half) →
    AreSeen both.gain n1 n2 half (seen recording t) (seen recording (t - symbol_step prefix))
signals_are_seen prefix recording t n1 n2 half both =
    let before : ℕ = t - symbol_step prefix in
    record {
      group = both.group;
      root = both.root;
      sounds = both.primary.sounds;
      primary = λ n l. subst (λ (z : Cpx). IsSeenAs 2316 both.gain z (seen recording t (n + 5))) (pss_in_grid n2 n l)
          (amplitude_is_seen_in_recording both.gain (pss_grid n2) recording t (n + 5) (pss_amplitudes n2) both.primary (omega arith));
      secondary = λ n l. subst (λ (z : Cpx). IsSeenAs 2316 both.gain z (seen recording before (n + 5))) (sss_in_grid n1 n2 half n l)
          (amplitude_is_seen_in_recording both.gain (sss_grid n1 n2 half) recording before (n + 5) (sss_amplitudes n1 n2 half) both.secondary (omega arith));
    }

pub sent_pair_is_identified : SentPairIsIdentified
unfolding prefix_identity
sent_pair_is_identified prefix recording hit n1 half both =
    sent_pair_is_best both.gain n1 hit.n2 half (seen recording hit.t) (seen recording (hit.t - symbol_step prefix)) (signals_are_seen prefix recording hit.t n1 hit.n2 half both)
