-- The channel of faint paths: how small and how large it is, and its deviation from the line through 24 of its values.
use Rattle.std.proofs.Common.{◌≡◌, ℕ, zero, suc, ◌+◌, ◌-◌, ◌*◌, ◌/◌, ◌%◌, ◌^◌, ◌<◌, ◌≤◌, arith, refl, ap, ap₂, sym, subst, ◌∙◌, inl, inr, Bool, true, false, List, nat_le, nat_lt, ℤ, pos, ◌+ℤ◌, ◌-ℤ◌, mul-le-mul, mul-le-mul_left}
use Rattle.std.specs.Prelude.{if◌then◌else◌}
use Rattle.std.proofs.Math.Path.{fun_ext}
use Rattle.std.proofs.lemmas.Int.{ints}
use Rattle.std.proofs.lemmas.Bool.{cases_lt, leb-true}
use Rattle.finite.specs.Sums.{sum_below, total_below}
use Rattle.finite.specs.Tests.{every_below}
use Rattle.finite.proofs.Lists.{values_below_at}
use Rattle.finite.proofs.Tests.{every_below_at}
use Rattle.cs_num.specs.declared.Cpx.{Cpx}
use Rattle.cs_num.specs.declared.Sample.{Sample}
use Rattle.cs_num.specs.Complex.{value_at, nothing, plus, times, square, minus, multiple}
use Rattle.cs_num.proofs.Complex.{pair, plus-nothing, plus-associates, times-plus}
use Rattle.crs.specs.Qpsk.{point}
use Rattle.crs.specs.Reference.{is_pattern_place}
use Rattle.observe.specs.Seen.{seen, seen_symbol}
use Rattle.crs.specs.declared.pattern.Pattern.{Pattern}
use Rattle.soft_bits.specs.Estimate.{between_by, pilot_place, estimate}
use Rattle.soft_bits.specs.Soft.{SeenSlot, seen_at, pilot_subcarrier, pattern_symbol, pattern_seen, pattern_sent}
use Rattle.norms.specs.Magnitudes.{IsBounded, energy_below}
use Rattle.norms.proofs.Naturals.{root-le}
use Rattle.norms.proofs.Algebra.{plus-exchanges, multiple-plus, times-multiple, times-minus}
use Rattle.norms.proofs.Squares.{square-multiple}
use Rattle.norms.proofs.TwoTerms.{weighted_term}
use Rattle.norms.proofs.Bounded.{sized_plain, bounded-plus, bounded-times, bounded-sum_by}
use Rattle.norms.proofs.Products.{bounded-multiple}
use Rattle.fold128.specs.Tables.{quarter, cosine, w_at}
use Rattle.budget.specs.Received.{received_of, IsSeenNear}
use Rattle.budget.specs.Through.{at_pilot, BothSpeak}
use Rattle.budget.specs.Paths.{Paths, AreFaint, weight, delayed, channel_over, over, path_bounds, IsSlotReceivedOver, PathsLeaveRoom, PathsAreThrough, PathsAreRead, SlotOverIsHeard}
use Rattle.budget.proofs.Parts.{multiple-swaps, minus_in_parts}
use Rattle.budget.proofs.Near.{line-multiple, line-level}
use Rattle.budget.proofs.Through.{values_speak_through}
use Rattle.budget.proofs.SeenOver.{amplitude_is_seen_over_in_recording, square-negated, delayed-small, over_paths, weight-least, channel_rest, channel-rest_small, channel_whole}

-- ---- differences

minus_is : (x y : Cpx) → plus x (minus nothing y) ≡ minus x y
minus_is x y = pair (part x.re y.re) (part x.im y.im)
  where
    part : (a b : ℤ) → a +ℤ (pos 0 -ℤ b) ≡ a -ℤ b
    part a b = omega (arith, ints)

bounded-minus : (x y : Cpx) (a b n : ℕ) → IsBounded a n x → IsBounded b n y → IsBounded (a + b) n (minus x y)
bounded-minus x y a b n p q =
    subst (IsBounded (a + b) n) (minus_is x y) (bounded-plus x (minus nothing y) a b n p (record { bounded = subst (λ (s : ℕ). s ≤ b * b * n) (sym (square-negated y)) q.bounded }))

-- a number larger than p + q, plus one with magnitude at most q, is at least p in magnitude
outweighs : (p q : ℕ) (x y : Cpx) → square y ≤ q * q → (p + q) * (p + q) < square x → p * p ≤ square (plus x y)
outweighs p q x y small large = elim (cases_lt (square (plus x y)) (p * p)) [
  | inl less ↦ absurd (none (square x) (below less) large)
  | inr more ↦ more
]
  where
    back : (a b : ℤ) → a +ℤ b -ℤ b ≡ a
    back a b = omega (arith, ints)

    plain : (s : ℕ) → s < p * p → s ≤ p * p
    plain s h = omega (arith, h)

    below : square (plus x y) < p * p → square x ≤ (p + q) * (p + q) * 1
    below less =
        subst (λ (z : Cpx). square z ≤ (p + q) * (p + q) * 1) (pair (back x.re y.re) (back x.im y.im))
        (bounded-minus (plus x y) y p q 1 (sized_plain (plus x y) p (plain (square (plus x y)) less)) (sized_plain y q small)).bounded

    none : (s : ℕ) → s ≤ (p + q) * (p + q) * 1 → (p + q) * (p + q) < s → ⊥
    none s h l = omega (arith, h, l)

-- ---- three times the deviation at a subcarrier from the line through the values at the reference signals

bent : (ℕ → Cpx) → ℕ → ℕ → Cpx
bent f shift k = minus (estimate (λ i. f (pilot_place shift i)) shift k) (multiple 3 (f k))

-- the line through sums is the sum of the lines
line-plus : (f g : ℕ → Cpx) (shift k : ℕ) → estimate (λ i. plus (f i) (g i)) shift k ≡ plus (estimate f shift k) (estimate g shift k)
line-plus f g shift k = by (nat_lt k (pilot_place shift 0)) (nat_lt k (pilot_place shift 23)) ((k - shift) / 3) ((k - shift) % 3)
  where
    by : (a b : Bool) (i r : ℕ) →
        (if a then multiple 3 (plus (f 0) (g 0)) else (if b then between_by 3 (λ i. plus (f i) (g i)) i r else multiple 3 (plus (f 23) (g 23))))
        ≡ plus (if a then multiple 3 (f 0) else (if b then between_by 3 f i r else multiple 3 (f 23))) (if a then multiple 3 (g 0) else (if b then between_by 3 g i r else multiple 3 (g 23)))
    by true b i r = multiple-plus 3 (f 0) (g 0)
    by false true i r =
        ap₂ plus (multiple-plus (3 - r) (f i) (g i)) (multiple-plus r (f (i + 1)) (g (i + 1)))
        ∙ plus-exchanges (multiple (3 - r) (f i)) (multiple (3 - r) (g i)) (multiple r (f (i + 1))) (multiple r (g (i + 1)))
    by false false i r = multiple-plus 3 (f 23) (g 23)

line-times : (c : Cpx) (f : ℕ → Cpx) (shift k : ℕ) → estimate (λ i. times c (f i)) shift k ≡ times c (estimate f shift k)
line-times c f shift k = by (nat_lt k (pilot_place shift 0)) (nat_lt k (pilot_place shift 23)) ((k - shift) / 3) ((k - shift) % 3)
  where
    by : (a b : Bool) (i r : ℕ) →
        (if a then multiple 3 (times c (f 0)) else (if b then between_by 3 (λ i. times c (f i)) i r else multiple 3 (times c (f 23))))
        ≡ times c (if a then multiple 3 (f 0) else (if b then between_by 3 f i r else multiple 3 (f 23)))
    by true b i r = sym (times-multiple 3 c (f 0))
    by false true i r =
        ap₂ plus (sym (times-multiple (3 - r) c (f i))) (sym (times-multiple r c (f (i + 1)))) ∙ sym (times-plus c (multiple (3 - r) (f i)) (multiple r (f (i + 1))))
    by false false i r = sym (times-multiple 3 c (f 23))

line-bounded : (t : ℕ) (f : ℕ → Cpx) → ((k : ℕ) → IsBounded t 1 (f k)) → (shift k : ℕ) → IsBounded (3 * t) 1 (estimate f shift k)
line-bounded t f each shift k = by (nat_lt k (pilot_place shift 0)) (nat_lt k (pilot_place shift 23)) ((k - shift) / 3) ((k - shift) % 3) (below (k - shift))
  where
    below : (n : ℕ) → n % 3 < 3
    below n = omega arith

    by : (a b : Bool) (i r : ℕ) → r < 3 → IsBounded (3 * t) 1 (if a then multiple 3 (f 0) else (if b then between_by 3 f i r else multiple 3 (f 23)))
    by true b i r few = bounded-multiple 3 (f 0) t 1 (each 0)
    by false true i r few =
        subst (λ (m : ℕ). IsBounded m 1 (between_by 3 f i r)) (share (3 - r) r (omega (arith, few)))
        (bounded-plus (multiple (3 - r) (f i)) (multiple r (f (i + 1))) ((3 - r) * t) (r * t) 1 (bounded-multiple (3 - r) (f i) t 1 (each i)) (bounded-multiple r (f (i + 1)) t 1 (each (i + 1))))
      where
        share : (a b : ℕ) → a + b ≡ 3 → a * t + b * t ≡ 3 * t
        share a b e =
            let whole : (a + b) * t ≡ 3 * t = ap (λ m. m * t) e in
            omega (arith, whole)
    by false false i r few = bounded-multiple 3 (f 23) t 1 (each 23)

bent-plus : (f g : ℕ → Cpx) (shift k : ℕ) → bent (λ k. plus (f k) (g k)) shift k ≡ plus (bent f shift k) (bent g shift k)
unfolding bent
bent-plus f g shift k =
    ap₂ minus (line-plus (λ i. f (pilot_place shift i)) (λ i. g (pilot_place shift i)) shift k) (multiple-plus 3 (f k) (g k))
    ∙ exchanged (estimate (λ i. f (pilot_place shift i)) shift k) (estimate (λ i. g (pilot_place shift i)) shift k) (multiple 3 (f k)) (multiple 3 (g k))
  where
    part : (a b c d : ℤ) → a +ℤ b -ℤ (c +ℤ d) ≡ a -ℤ c +ℤ (b -ℤ d)
    part a b c d = omega (arith, ints)

    exchanged : (x y u v : Cpx) → minus (plus x y) (plus u v) ≡ plus (minus x u) (minus y v)
    exchanged x y u v = pair (part x.re y.re u.re v.re) (part x.im y.im u.im v.im)

bent-times : (c : Cpx) (f : ℕ → Cpx) (shift k : ℕ) → bent (λ k. times c (f k)) shift k ≡ times c (bent f shift k)
unfolding bent
bent-times c f shift k =
    ap₂ minus (line-times c (λ i. f (pilot_place shift i)) shift k) (sym (times-multiple 3 c (f k)))
    ∙ sym (times-minus c (estimate (λ i. f (pilot_place shift i)) shift k) (multiple 3 (f k)))

bent-level : (z : Cpx) (shift k : ℕ) → bent (λ k. z) shift k ≡ nothing
unfolding bent
bent-level z shift k = ap (λ (x : Cpx). minus x (multiple 3 z)) (line-level 3 23 z (omega arith) shift k) ∙ pair (none (multiple 3 z).re) (none (multiple 3 z).im)
  where
    none : (a : ℤ) → a -ℤ a ≡ pos 0
    none a = omega (arith, ints)

bent-parts : (f : ℕ → Cpx) (shift k : ℕ) → bent (λ k. multiple 16384 (f k)) shift k ≡ multiple 16384 (bent f shift k)
unfolding bent
bent-parts f shift k =
    ap₂ minus (line-multiple 16384 3 23 (λ i. f (pilot_place shift i)) (omega arith) shift k) (multiple-swaps 3 16384 (f k))
    ∙ minus_in_parts (estimate (λ i. f (pilot_place shift i)) shift k) (multiple 3 (f k))

bent-sum : (count : ℕ) (gains : ℕ → Cpx) (f : ℕ → ℕ → Cpx) (shift k : ℕ) →
    bent (λ k. received_of count gains (λ path. f path k)) shift k ≡ received_of count gains (λ path. bent (f path) shift k)
unfolding sum_below
bent-sum zero gains f shift k = bent-level nothing shift k
bent-sum (suc count) gains f shift k =
    bent-plus (λ k. received_of count gains (λ path. f path k)) (λ k. times (gains count) (f count k)) shift k
    ∙ ap₂ plus (bent-sum count gains f shift k) (bent-times (gains count) (f count) shift k)

bent-bounded : (t : ℕ) (f : ℕ → Cpx) → ((k : ℕ) → IsBounded t 1 (f k)) → (shift k : ℕ) → IsBounded (3 * t + 3 * t) 1 (bent f shift k)
unfolding bent
bent-bounded t f each shift k =
    bounded-minus (estimate (λ i. f (pilot_place shift i)) shift k) (multiple 3 (f k)) (3 * t) (3 * t) 1
    (line-bounded t (λ i. f (pilot_place shift i)) (λ i. each (pilot_place shift i)) shift k) (bounded-multiple 3 (f k) t 1 (each k))

-- ---- one delay

-- the maximum deviation for one delay, times three and in parts
bend_most : ℕ → ℕ
bend_most delay = 2103 * weight delay - 2114

unfoldable bends_little : ℕ → ℕ → ℕ → Bool
bends_little delay shift k = nat_le (square (bent (delayed delay) shift k)) (bend_most delay * bend_most delay)

-- the bound holds for delays up to 9, the three shifts, and all subcarriers (a finite check)
all_bend_little : every_below 10 (λ delay. every_below 3 (λ shift. every_below 72 (bends_little delay shift))) ≡ true
unfolding quarter cosine w_at bent bend_most bends_little every_below
all_bend_little = refl

delay-bends : (delay shift k : ℕ) → delay < 10 → shift < 3 → k < 72 → square (bent (delayed delay) shift k) ≤ bend_most delay * bend_most delay
delay-bends delay shift k p q r =
    leb-true _ _ (unfold bends_little in every_below_at 72 (bends_little delay shift)
    (every_below_at 3 (λ shift. every_below 72 (bends_little delay shift)) (every_below_at 10 (λ delay. every_below 3 (λ shift. every_below 72 (bends_little delay shift))) all_bend_little delay p) shift q) k r)

-- the sums over the later paths, by their bends and by their magnitudes
together : (n : ℕ) (magnitudes bends weights : ℕ → ℕ) → ((i : ℕ) → i < n → 1000 * bends i + 2113665 ≤ 2103000 * weights i) →
    1000 * total_below n (λ i. magnitudes i * bends i) + 129 * total_below n (λ i. magnitudes i * 16385) ≤ 2103000 * total_below n (λ i. weights i * magnitudes i)
unfolding total_below
together zero magnitudes bends weights each = omega arith
together (suc n) magnitudes bends weights each =
    let before = together n magnitudes bends weights (λ i l. each i (omega (arith, l))) in
    let here : magnitudes n * (1000 * bends n + 2113665) ≤ magnitudes n * (2103000 * weights n) = mul-le-mul_left (magnitudes n) (each n (omega arith)) in
    omega (arith, before, here)

bend_counts : (delay : ℕ) → 1000 * bend_most delay + 2113665 ≤ 2103000 * weight delay
unfolding bend_most
bend_counts delay = count (weight delay) (weight-least delay)
  where
    count : (w : ℕ) → 17 ≤ w → 1000 * (2103 * w - 2114) + 2113665 ≤ 2103000 * w
    count w l = omega (arith, l)

-- s is the weighted sum over the later paths, n the first gain's square
fits-square : (s n t : ℕ) → s * s ≤ n → 2 ^ 28 ≤ n → t ≤ 2103000 * s + 71010594 → t * t < 129 * 129 * (16384 * 16384 * n)
fits-square s n t h some few =
    let all : 2 ^ 28 * (s * s) ≤ n * n = mul-le-mul some h in
    let root : 16384 * s ≤ n = root-le (16384 * s) n (omega (arith, all)) in
    let squares : t * t ≤ (2103000 * s + 71010594) * (2103000 * s + 71010594) = mul-le-mul few few in
    omega (arith, root, squares, h, some)

-- ---- the channel

module _ (magnitudes : ℕ → ℕ) (paths : Paths) (faint : AreFaint magnitudes paths) (sounds : 2 ^ 28 ≤ square paths.first) where
  -- 16384 times the later paths' part of the channel, without and with the rounding error
  others : ℕ → Cpx
  others k = received_of paths.later paths.gain (λ path. delayed (paths.delay path) k)

  besides : ℕ → Cpx
  besides k = plus (others k) (channel_rest paths k)

  channel_is : (k : ℕ) → multiple 16384 (channel_over paths k) ≡ plus (multiple 16384 paths.first) (besides k)
  unfolding besides others
  channel_is k = channel_whole paths k ∙ plus-associates (multiple 16384 paths.first) (others k) (channel_rest paths k)

  rest-bounded : (k : ℕ) → IsBounded 11586 1 (channel_rest paths k)
  rest-bounded k = sized_plain (channel_rest paths k) 11586 (fits (square (channel_rest paths k)) (channel-rest_small paths k))
    where
      fits : (s : ℕ) → s ≤ 134217728 → s ≤ 11586 * 11586
      fits s h = omega (arith, h)

  -- the rest relative to the first gain
  besides-bounded : (k : ℕ) → IsBounded 965 (square paths.first) (besides k)
  unfolding besides others
  besides-bounded k =
      bounded-plus (others k) (channel_rest paths k) 964 1 (square paths.first)
      (over_paths magnitudes paths 16385 964 (λ path. delayed (paths.delay path) k) faint (omega arith) (λ path l. delayed-small (paths.delay path) k))
      (record { bounded = fits (square (channel_rest paths k)) (square paths.first) (channel-rest_small paths k) sounds })
    where
      fits : (s n : ℕ) → s ≤ 134217728 → 2 ^ 28 ≤ n → s ≤ 1 * 1 * n
      fits s n h l = omega (arith, h, l)

  pub channel-least : (k : ℕ) → 940 * 940 * square paths.first ≤ 1000000 * square (channel_over paths k)
  channel-least k =
      fits (square paths.first) (square x) (square y) (square (plus x y)) (square (multiple 16384 (channel_over paths k))) (square (channel_over paths k))
      (square-multiple 16384 paths.first) (ap (λ (z : Cpx). square z) (channel_is k)) (square-multiple 16384 (channel_over paths k)) (besides-bounded k).bounded (weighted_term 16 x y)
    where
      x : Cpx
      x = multiple 16384 paths.first

      y : Cpx
      y = besides k

      fits : (n x y s t v : ℕ) → x ≡ 16384 * 16384 * n → t ≡ s → t ≡ 16384 * 16384 * v → y ≤ 965 * 965 * n → 16 * x ≤ (16 + 1) * s + 16 * (16 + 1) * y → 940 * 940 * n ≤ 1000000 * v
      fits n x y s t v e f g h l = omega (arith, e, f, g, h, l)

  channel-most : (k : ℕ) → 1000000 * square (channel_over paths k) ≤ 1060 * 1060 * square paths.first
  channel-most k =
      fits (square paths.first) (square (plus x y)) (square (multiple 16384 (channel_over paths k))) (square (channel_over paths k))
      (ap (λ (z : Cpx). square z) (channel_is k)) (square-multiple 16384 (channel_over paths k))
      (bounded-plus x y 16384 965 (square paths.first) (record { bounded = exact (square x) (square paths.first) (square-multiple 16384 paths.first) }) (besides-bounded k)).bounded
    where
      x : Cpx
      x = multiple 16384 paths.first

      y : Cpx
      y = besides k

      exact : (s n : ℕ) → s ≡ 16384 * 16384 * n → s ≤ 16384 * 16384 * n
      exact s n e = omega (arith, e)

      fits : (n s t v : ℕ) → t ≡ s → t ≡ 16384 * 16384 * v → s ≤ (16384 + 965) * (16384 + 965) * n → 1000000 * v ≤ 1060 * 1060 * n
      fits n s t v f g h = omega (arith, f, g, h)

  -- ---- relative to the channel: sums of magnitudes

  bends : ℕ
  bends = total_below paths.later (λ path. magnitudes path * bend_most (paths.delay path))

  counts : ℕ
  counts = total_below paths.later (λ path. magnitudes path * 16385)

  besides-plain : (k : ℕ) → IsBounded (counts + 11586) 1 (besides k)
  unfolding besides others counts
  besides-plain k =
      bounded-plus (others k) (channel_rest paths k) counts 11586 1
      (bounded-sum_by paths.later (λ path. times (paths.gain path) (delayed (paths.delay path) k)) (λ path. magnitudes path * 16385) 1
      (λ path l. bounded-times (paths.gain path) (delayed (paths.delay path) k) (magnitudes path) 16385 1 1 (sized_plain (paths.gain path) (magnitudes path) (faint.bounded path l)) (delayed-small (paths.delay path) k)))
      (rest-bounded k)

  bent-besides : (shift k : ℕ) → shift < 3 → k < 72 → IsBounded (bends + 69516) 1 (bent besides shift k)
  unfolding besides others bends
  bent-besides shift k few inside =
      subst (IsBounded (bends + 69516) 1) (sym (bent-plus others (channel_rest paths) shift k))
      (bounded-plus (bent others shift k) (bent (channel_rest paths) shift k) bends 69516 1
      (subst (IsBounded bends 1) (sym (bent-sum paths.later paths.gain (λ path. delayed (paths.delay path)) shift k))
      (bounded-sum_by paths.later (λ path. times (paths.gain path) (bent (delayed (paths.delay path)) shift k)) (λ path. magnitudes path * bend_most (paths.delay path)) 1
      (λ path l. bounded-times (paths.gain path) (bent (delayed (paths.delay path)) shift k) (magnitudes path) (bend_most (paths.delay path)) 1 1 (sized_plain (paths.gain path) (magnitudes path) (faint.bounded path l))
      (sized_plain (bent (delayed (paths.delay path)) shift k) (bend_most (paths.delay path)) (delay-bends (paths.delay path) shift k (up_to (paths.delay path) (faint.near path l)) few inside)))))
      (bent-bounded 11586 (channel_rest paths) rest-bounded shift k))
    where
      up_to : (d : ℕ) → d ≤ 9 → d < 10
      up_to d h = omega (arith, h)

  bent_is : (shift k : ℕ) → multiple 16384 (bent (channel_over paths) shift k) ≡ bent besides shift k
  bent_is shift k =
      sym (bent-parts (channel_over paths) shift k) ∙ ap (λ (f : ℕ → Cpx). bent f shift k) (fun_ext channel_is)
      ∙ bent-plus (λ k. multiple 16384 paths.first) besides shift k ∙ ap (λ (z : Cpx). plus z (bent besides shift k)) (bent-level (multiple 16384 paths.first) shift k)
      ∙ plus-nothing (bent besides shift k)

  channel-bends : (shift k : ℕ) → shift < 3 → k < 72 → 1000000 * square (bent (channel_over paths) shift k) ≤ 9 * (43 * 43) * square (channel_over paths k)
  unfolding bends counts
  channel-bends shift k few inside =
      fits bends (square (bent (channel_over paths) shift k)) (square (multiple 16384 (bent (channel_over paths) shift k))) (square (bent besides shift k)) (square (channel_over paths k)) (square (multiple 16384 (channel_over paths k)))
      (square (multiple 129 (multiple 16384 (channel_over paths k)))) (square (plus x y)) (square-multiple 16384 (bent (channel_over paths) shift k)) (ap (λ (z : Cpx). square z) (bent_is shift k)) (bent-besides shift k few inside).bounded
      (square-multiple 16384 (channel_over paths k)) (square-multiple 129 (multiple 16384 (channel_over paths k)))
      (ap (λ (z : Cpx). square z) (ap (multiple 129) (channel_is k) ∙ multiple-plus 129 (multiple 16384 paths.first) (besides k)))
      (outweighs (1000 * (bends + 69516)) (129 * (counts + 11586)) x y (small counts (square y) (square (besides k)) (square-multiple 129 (besides k)) (besides-plain k).bounded)
      (subst (λ (s : ℕ). (1000 * (bends + 69516) + 129 * (counts + 11586)) * (1000 * (bends + 69516) + 129 * (counts + 11586)) < s)
      (sym (square-multiple 129 (multiple 16384 paths.first) ∙ ap (λ (s : ℕ). 129 * 129 * s) (square-multiple 16384 paths.first)))
      (fits-square (total_below paths.later (λ path. weight (paths.delay path) * magnitudes path)) (square paths.first) (1000 * (bends + 69516) + 129 * (counts + 11586)) faint.faint sounds
      (summed bends counts (total_below paths.later (λ path. weight (paths.delay path) * magnitudes path))
      (together paths.later magnitudes (λ path. bend_most (paths.delay path)) (λ path. weight (paths.delay path)) (λ path l. bend_counts (paths.delay path)))))))
    where
      x : Cpx
      x = multiple 129 (multiple 16384 paths.first)

      y : Cpx
      y = multiple 129 (besides k)

      small : (c s t : ℕ) → s ≡ 129 * 129 * t → t ≤ (c + 11586) * (c + 11586) * 1 → s ≤ 129 * (c + 11586) * (129 * (c + 11586))
      small c s t e h = omega (arith, e, h)

      summed : (b c s : ℕ) → 1000 * b + 129 * c ≤ 2103000 * s → 1000 * (b + 69516) + 129 * (c + 11586) ≤ 2103000 * s + 71010594
      summed b c s h = omega (arith, h)

      fits : (b s t u v w x z : ℕ) → t ≡ 16384 * 16384 * s → t ≡ u → u ≤ (b + 69516) * (b + 69516) * 1 → w ≡ 16384 * 16384 * v → x ≡ 129 * 129 * w → x ≡ z →
          1000 * (b + 69516) * (1000 * (b + 69516)) ≤ z → 1000000 * s ≤ 9 * (43 * 43) * v
      fits b s t u v w x z e f h g i j l = omega (arith, e, f, h, g, i, j, l)

-- ---- a slot

pub paths_leave_room : PathsLeaveRoom
paths_leave_room = record { some = omega arith; high = omega arith; reads = omega arith; room = omega arith }

scaled-within : (n a b : ℕ) (f : ℕ → ℕ) → ((i : ℕ) → i < n → a * f i ≤ b) → a * total_below n f ≤ n * b
unfolding total_below
scaled-within zero a b f each = omega arith
scaled-within (suc n) a b f each =
    let before = scaled-within n a b f (λ i l. each i (omega (arith, l))) in
    let here = each n (omega arith) in
    omega (arith, before, here)

pub paths_are_through : PathsAreThrough
paths_are_through magnitudes paths pattern slot faint sounds seen = record {
  sounds = some (square paths.first) sounds;
  pilot = seen;
  mean = means (square paths.first) (energy_below 24 (at_pilot pattern slot (over paths)))
      (scaled-within 24 1000000 (1060 * 1060 * square paths.first) (λ i. square (at_pilot pattern slot (over paths) i)) (λ i l. channel-most magnitudes paths faint sounds (pilot_subcarrier slot.identity i)));
}
  where
    some : (n : ℕ) → 2 ^ 28 ≤ n → 1 ≤ n
    some n h = omega (arith, h)

    means : (n e : ℕ) → 1000000 * e ≤ 24 * (1060 * 1060 * n) → 1000000 * e ≤ 1060 * 1060 * (24 * n)
    means n e h = omega (arith, h)

pub paths_are_read : PathsAreRead
unfolding bent
paths_are_read magnitudes paths pattern slot symbol k faint sounds inside = record {
  least = channel-least magnitudes paths faint sounds k;
  straight = channel-bends magnitudes paths faint sounds (slot.identity % 3) k (shift slot.identity) inside;
}
  where
    shift : (n : ℕ) → n % 3 < 3
    shift n = omega arith

-- ---- a received slot

module _ (magnitudes : ℕ → ℕ) (paths : Paths) (pattern : Pattern) (count : ℕ) (recording : List Sample) (starts : ℕ → ℕ) (grids : ℕ → ℕ → Cpx) (slot : SeenSlot) (faint : AreFaint magnitudes paths)
    (later : pattern.later < count) (is : IsSlotReceivedOver paths pattern count recording starts grids slot) where
  read : (start k : ℕ) → k < 72 → value_at (seen_symbol recording start) k ≡ seen recording start k
  unfolding seen_symbol
  read start k l = values_below_at (seen recording start) 72 k nothing l

  pub place-seen : (symbol k : ℕ) → symbol < count → k < 72 → IsSeenNear 1880 (square paths.first) (times (channel_over paths k) (grids symbol k)) (seen_at slot symbol k)
  place-seen symbol k few inside =
      subst (λ (z : Cpx). IsSeenNear 1880 (square paths.first) (times (channel_over paths k) (grids symbol k)) z) (sym (ap (λ (xs : List Cpx). value_at xs k) (is.seen symbol few) ∙ read (starts symbol) k inside))
      (amplitude_is_seen_over_in_recording magnitudes paths (grids symbol) recording (starts symbol) k (is.amplitudes symbol few) faint (is.received symbol few) inside)

  symbol-few : (i : ℕ) → pattern_symbol pattern slot.identity i < count
  unfolding pattern_symbol
  symbol-few i = few (is_pattern_place pattern slot.identity 0 (pilot_subcarrier slot.identity i))
    where
      few : (b : Bool) → (if b then 0 else pattern.later) < count
      few true = omega (arith, later)
      few false = later

  pub pilot-seen : (i : ℕ) → i < 24 →
      IsSeenNear 1880 (square paths.first) (times (channel_over paths (pilot_subcarrier slot.identity i)) (pattern_sent pattern slot.identity slot.number i)) (pattern_seen pattern slot i)
  unfolding pattern_seen
  pilot-seen i l =
      subst (λ (z : Cpx). IsSeenNear 1880 (square paths.first) (times (channel_over paths (pilot_subcarrier slot.identity i)) z) (seen_at slot (pattern_symbol pattern slot.identity i) (pilot_subcarrier slot.identity i)))
      (is.references i l) (place-seen (pattern_symbol pattern slot.identity i) (pilot_subcarrier slot.identity i) (symbol-few i) (omega (arith, l)))

  both-speak : (symbol k : ℕ) (first second : Bool) → symbol < count → k < 72 → grids symbol k ≡ point first second → BothSpeak 1 pattern slot k first second (seen_at slot symbol k)
  both-speak symbol k first second few inside same =
      values_speak_through 1 (square paths.first) path_bounds pattern (over paths) slot symbol k first second (seen_at slot symbol k) paths_leave_room
      (paths_are_through magnitudes paths pattern slot faint (is.received symbol few).sounds pilot-seen)
      (paths_are_read magnitudes paths pattern slot symbol k faint (is.received symbol few).sounds inside)
      (subst (λ (z : Cpx). IsSeenNear 1880 (square paths.first) (times (channel_over paths k) z) (seen_at slot symbol k)) same (place-seen symbol k few inside))

pub slot_over_is_heard : SlotOverIsHeard
slot_over_is_heard magnitudes paths pattern count recording starts grids slot symbol k first second faint later is = both-speak magnitudes paths pattern count recording starts grids slot faint later is symbol k first second
