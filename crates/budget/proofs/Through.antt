-- The soft values for a resource element that is demodulated through a channel support its bits if the bounds leave
-- room; one gain is a case.
use Rattle.std.proofs.Common.{◌≡◌, ℕ, zero, suc, ◌+◌, ◌*◌, ◌%◌, ◌<◌, ◌≤◌, arith, refl, ap, ap₂, sym, ◌∙◌, subst, Bool, true, false, ℤ, pos, ◌+ℤ◌, ◌-ℤ◌, ◌*ℤ◌, mul-le-mul, mul-le-mul_left, mul-le-mul_right}
use Rattle.std.specs.Prelude.{nat_abs}
use Rattle.std.proofs.lemmas.Int.{ints}
use Rattle.finite.specs.Sums.{total_below}
use Rattle.finite.proofs.Sums.{total_below-within, total_below-term}
use Rattle.finite.proofs.Ring.{var, lit, same}
use Rattle.finite.proofs.Ring as ring
use Rattle.cs_num.specs.declared.Cpx.{Cpx}
use Rattle.cs_num.specs.Complex.{IsWithin, nothing, plus, times, conjugate, square, minus, multiple}
use Rattle.cs_num.proofs.Complex.{pair, plus-nothing, plus-associates}
use Rattle.norms.specs.Magnitudes.{IsBounded, inner, real, energy_below, correlation_below}
use Rattle.norms.proofs.Naturals.{root-le}
use Rattle.norms.proofs.Algebra.{plus-minus, multiple-plus, multiple_twice, times-multiple}
use Rattle.norms.proofs.Squares.{square-times, square-multiple, square-conjugate, inner-le, re-le}
use Rattle.norms.proofs.Bounded.{bounded-plus}
use Rattle.norms.proofs.Products.{product_near}
use Rattle.norms.proofs.Cauchy.{cauchy, energy_same}
use Rattle.norms.proofs.Gram.{energy_with_errors}
use Rattle.cs_bits.specs.Signs.{Supports}
use Rattle.crs.specs.Qpsk.{component, point}
use Rattle.crs.specs.declared.pattern.Pattern.{Pattern}
use Rattle.soft_bits.specs.Estimate.{estimate}
use Rattle.soft_bits.specs.Soft.{SeenSlot, pattern_seen, pattern_sent, pattern_pilot, pattern_channel, pattern_energy, soft_value}
use Rattle.budget.specs.Received.{in_parts}
use Rattle.budget.specs.Through.{Channel, Bounds, at_pilot, ArePilotsThrough, estimate_off, product_off, energy_most, ValuesSpeakThrough, level, OneGainLeavesRoom, QuietGainLeavesRoom, OneGainIsThrough, OneGainIsRead}
use Rattle.budget.proofs.Parts.{product-multiples, product_in_parts, square_in_parts, energy_in_parts}
use Rattle.budget.proofs.Deviations.{deviation, seen_is, deviation-bounded}
use Rattle.budget.proofs.Near.{IsOff, line-off, line-multiple, line-level}
use Rattle.budget.proofs.Pilots.{sent-size, turned_pilot-near}
use Rattle.budget.proofs.Signs.{near_component_speaks}

-- ---- sums of squares

one-times : (z : Cpx) → z ≡ times (real 1) z
one-times z =
    let a = var z.re in
    let b = var z.im in
    pair (same a (ring.minus (ring.times (lit 1) a) (ring.times (lit 0) b)) (omega arith)) (same b (ring.plus (ring.times (lit 1) b) (ring.times (lit 0) a)) (omega arith))

-- the root of a sum's energy is at most the summed roots
energy-triangle : (n r a b w : ℕ) (f e : ℕ → Cpx) → r * energy_below n f ≤ a * a * w → r * energy_below n e ≤ b * b * w → r * energy_below n (λ k. plus (f k) (e k)) ≤ (a + b) * (a + b) * w
energy-triangle n r a b w f e p q =
    let c : Cpx = correlation_below n e f in
    sides (energy_below n (λ k. plus (f k) (e k))) (energy_below n f) (energy_below n e) (square c) (inner (real 1) c)
    (ap pos (energy_same n (λ k. plus (f k) (e k)) (λ k. plus (times (real 1) (f k)) (e k)) (λ k l. ap (λ (z : Cpx). plus z (e k)) (one-times (f k)))) ∙ energy_with_errors n (real 1) f e)
    (inner-le (real 1) c) (cauchy n e f) p q
  where
    crossed : (x y c j : ℕ) → j * j ≤ 1 * c → c ≤ y * x → r * x ≤ a * a * w → r * y ≤ b * b * w → r * j ≤ a * b * w
    crossed x y c j h k p q =
        let m : (r * y) * (r * x) ≤ (b * b * w) * (a * a * w) = mul-le-mul q p in
        let l : r * r * (j * j) ≤ r * r * (y * x) = mul-le-mul_left (r * r) (let t : j * j ≤ y * x = omega (arith, h, k) in t) in
        root-le (r * j) (a * b * w) (omega (arith, l, m))

    at_most : (s x y : ℕ) (i : ℤ) → pos s ≡ pos (1 * x) +ℤ pos y +ℤ pos 2 *ℤ i → s ≤ x + y + 2 * nat_abs i
    at_most s x y i same = omega (arith, ints)

    sides : (s x y c : ℕ) (i : ℤ) → pos s ≡ pos (1 * x) +ℤ pos y +ℤ pos 2 *ℤ i → nat_abs i * nat_abs i ≤ 1 * c → c ≤ y * x → r * x ≤ a * a * w → r * y ≤ b * b * w → r * s ≤ (a + b) * (a + b) * w
    sides s x y c i same h k p q =
        let m : r * s ≤ r * (x + y + 2 * nat_abs i) = mul-le-mul_left r (at_most s x y i same) in
        let j : r * nat_abs i ≤ a * b * w = crossed x y c (nat_abs i) h k p q in
        omega (arith, m, j, p, q)

terms_scaled : (n m : ℕ) (f g : ℕ → ℕ) → ((i : ℕ) → i < n → f i ≤ m * g i) → total_below n f ≤ m * total_below n g
unfolding total_below
terms_scaled zero m f g each = omega arith
terms_scaled (suc n) m f g each =
    let before = terms_scaled n m f g (λ i l. each i (omega (arith, l))) in
    let here = each n (omega arith) in
    omega (arith, before, here)

-- ---- the pilot energy bounds the estimate

channel-small : (pattern : Pattern) (slot : SeenSlot) (k : ℕ) → square (pattern_channel pattern slot k) ≤ 145800 * pattern_energy pattern slot
unfolding pattern_channel pattern_pilot pattern_energy
channel-small pattern slot k =
    fits (square line) (square (in_parts line)) (square near.off) (total_below 24 (λ i. square (pattern_seen pattern slot i))) (square_in_parts line)
    (ap (λ (z : Cpx). square z) (near.is ∙ ap (λ (z : Cpx). plus z near.off) (line-level 3 23 nothing (omega arith) (slot.identity % 3) k) ∙ plus-nothing near.off)) near.small.bounded
  where
    pilots : ℕ → Cpx
    pilots i = times (pattern_seen pattern slot i) (conjugate (pattern_sent pattern slot.identity slot.number i))

    line : Cpx
    line = estimate pilots (slot.identity % 3) k

    product : (q s x y z : ℕ) → s ≡ 268435456 * x → x ≡ y * z → z ≡ 16200 → y ≤ q → s ≤ 1 * 1 * (268435456 * (16200 * q))
    product q s x y z e f g l =
        let m : y * z ≡ y * 16200 = ap (λ (n : ℕ). y * n) g in
        omega (arith, e, f, m, l)

    each : (i : ℕ) → i ≤ 23 → IsOff (268435456 * (16200 * total_below 24 (λ i. square (pattern_seen pattern slot i)))) 1 nothing (pilots i)
    each i l = record {
      off = in_parts (pilots i);
      is = sym (plus-nothing (in_parts (pilots i)));
      small = record {
        bounded = product (total_below 24 (λ i. square (pattern_seen pattern slot i))) (square (in_parts (pilots i))) (square (pilots i)) (square (pattern_seen pattern slot i))
            (square (conjugate (pattern_sent pattern slot.identity slot.number i))) (square_in_parts (pilots i))
            (square-times (pattern_seen pattern slot i) (conjugate (pattern_sent pattern slot.identity slot.number i)))
            (square-conjugate (pattern_sent pattern slot.identity slot.number i) ∙ sent-size pattern slot.identity slot.number i)
            (total_below-term 24 i (λ i. square (pattern_seen pattern slot i)) (omega (arith, l)));
      };
    }

    near : IsOff (268435456 * (16200 * total_below 24 (λ i. square (pattern_seen pattern slot i)))) (3 * 1) (estimate (λ i. nothing) (slot.identity % 3) k) line
    near = line-off (268435456 * (16200 * total_below 24 (λ i. square (pattern_seen pattern slot i)))) 1 (λ i. nothing) pilots 3 23 (omega arith) each (slot.identity % 3) k

    fits : (s t o q : ℕ) → t ≡ 268435456 * s → t ≡ o → o ≤ 3 * 1 * (3 * 1) * (268435456 * (16200 * q)) → s ≤ 145800 * q
    fits s t o q e f h = omega (arith, e, f, h)

-- ---- a resource element

point-small : (first second : Bool) → square (multiple 64 (point first second)) ≤ 8192 * 8192
point-small false false = omega arith
point-small false true = omega arith
point-small true false = omega arith
point-small true true = omega arith

-- the multiple of an estimate, c times (3 times x plus r) plus an error, multiplied out
opened : (m c : ℕ) (x r e : Cpx) → multiple m (plus (multiple c (plus (multiple 3 x) r)) e) ≡ plus (multiple (m * c * 3) x) (plus (multiple (m * c) r) (multiple m e))
opened m c x r e =
    multiple-plus m (multiple c (plus (multiple 3 x) r)) e
    ∙ ap (λ (z : Cpx). plus z (multiple m e))
    (multiple_twice m c (plus (multiple 3 x) r) ∙ multiple-plus (m * c) (multiple 3 x) r ∙ ap (λ (z : Cpx). plus z (multiple (m * c) r)) (multiple_twice (m * c) 3 x))
    ∙ plus-associates (multiple (m * c * 3) x) (multiple (m * c) r) (multiple m e)

-- a component that is 0 is not near any component of a QPSK symbol
none_near : (bit : Bool) (c : ℤ) (scale main off v : ℕ) → nat_abs c ≤ 0 → 1 ≤ v → 6 * off < 540 * main → nat_abs (pos scale *ℤ c -ℤ pos (main * v) *ℤ component bit) ≤ off * v → ⊥
none_near bit c scale main off v none some room near =
    outweighed (main * v) (off * v) (by bit (main * v) (off * v) (subst (λ x. nat_abs (pos scale *ℤ x -ℤ pos (main * v) *ℤ component bit) ≤ off * v) (zero_is c none) near))
  where
    zero_is : (c : ℤ) → nat_abs c ≤ 0 → c ≡ pos 0
    zero_is c h = omega (arith, ints)

    by : (bit : Bool) (p o : ℕ) → nat_abs (pos scale *ℤ pos 0 -ℤ pos p *ℤ component bit) ≤ o → 90 * p ≤ o
    by false p o h = omega (arith, ints)
    by true p o h = omega (arith, ints)

    outweighed : (p o : ℕ) → 90 * (main * v) ≤ off * v → ⊥
    outweighed p o h =
        let k : (6 * off + 1) * v ≤ 540 * main * v = mul-le-mul_right v (let l : 6 * off + 1 ≤ 540 * main = omega (arith, room) in l) in
        omega (arith, h, k, some)

-- a multiple of the demodulated value
pub seen_part : (m : ℕ) (h a z : Cpx) → multiple m (in_parts z) ≡ plus (times h (multiple m (multiple 64 a))) (multiple m (deviation h a z))
seen_part m h a z =
    ap (multiple m) (seen_is h a z) ∙ multiple-plus m (times h (multiple 64 a)) (deviation h a z)
    ∙ ap (λ (x : Cpx). plus x (multiple m (deviation h a z))) (sym (times-multiple m h (multiple 64 a)))

-- ---- numbers: n is the square of the magnitude, and v the channel's square at the resource element

module _ (bounds : Bounds) (n v : ℕ) (least : bounds.least * bounds.least * n ≤ 1000000 * v) where
  pub channel-some : 1 ≤ n → 1 ≤ bounds.least → 1 ≤ v
  channel-some some reads =
      let one : 1 * 1 ≤ bounds.least * bounds.least = mul-le-mul reads reads in
      let all : 1 * 1 * n ≤ bounds.least * bounds.least * n = mul-le-mul_right n one in
      omega (arith, all, some, least)

  -- the demodulated value's deviation
  pub seen-fits : (s t : ℕ) → t ≡ bounds.least * bounds.least * s → s ≤ bounds.most * bounds.most * n → t ≤ 1000 * bounds.most * (1000 * bounds.most) * v
  seen-fits s t same h =
      let one : bounds.least * bounds.least * s ≤ bounds.least * bounds.least * (bounds.most * bounds.most * n) = mul-le-mul_left (bounds.least * bounds.least) h in
      let all : bounds.most * bounds.most * (bounds.least * bounds.least * n) ≤ bounds.most * bounds.most * (1000000 * v) = mul-le-mul_left (bounds.most * bounds.most) least in
      omega (arith, same, one, all)

  -- the estimate's deviation, from the line and from the pilots
  line-fits : (s t : ℕ) → t ≡ 1000 * bounds.least * 1036800 * (1000 * bounds.least * 1036800) * s → 1000000 * s ≤ 9 * (bounds.bend * bounds.bend) * v →
      t ≤ 3110400 * (bounds.bend * bounds.least) * (3110400 * (bounds.bend * bounds.least)) * v
  line-fits s t same h =
      let all : 1036800 * 1036800 * (bounds.least * bounds.least) * (1000000 * s) ≤ 1036800 * 1036800 * (bounds.least * bounds.least) * (9 * (bounds.bend * bounds.bend) * v) =
      mul-le-mul_left (1036800 * 1036800 * (bounds.least * bounds.least)) h in
      omega (arith, same, all)

  pilots-fit : (s t : ℕ) → t ≡ 1000 * bounds.least * (1000 * bounds.least) * s → s ≤ 3 * bounds.most * (3 * bounds.most) * (16200 * n) → t ≤ 384000000 * bounds.most * (384000000 * bounds.most) * v
  pilots-fit s t same h =
      let one : 1000000 * (bounds.least * bounds.least) * s ≤ 1000000 * (bounds.least * bounds.least) * (3 * bounds.most * (3 * bounds.most) * (16200 * n)) = mul-le-mul_left (1000000 * (bounds.least * bounds.least)) h in
      let all : bounds.most * bounds.most * (bounds.least * bounds.least * n) ≤ bounds.most * bounds.most * (1000000 * v) = mul-le-mul_left (bounds.most * bounds.most) least in
      omega (arith, same, one, all)

  point-fits : (s t : ℕ) → t ≡ bounds.least * bounds.least * s → s ≤ 8192 * 8192 → t ≤ 8192 * bounds.least * (8192 * bounds.least)
  point-fits s t same h =
      let all : bounds.least * bounds.least * s ≤ bounds.least * bounds.least * (8192 * 8192) = mul-le-mul_left (bounds.least * bounds.least) h in
      omega (arith, same, all)

  -- the pilot energy, where s is the square that bounds it
  energy-fits : (q s : ℕ) → 1000000 * (268435456 * q) ≤ s * (24 * n) → bounds.least * (1000 * bounds.least) * 268435456 * q ≤ 24000 * s * v
  energy-fits q s h =
      let one : 1000 * (bounds.least * bounds.least) * (1000000 * (268435456 * q)) ≤ 1000 * (bounds.least * bounds.least) * (s * (24 * n)) = mul-le-mul_left (1000 * (bounds.least * bounds.least)) h in
      let all : 24000 * s * (bounds.least * bounds.least * n) ≤ 24000 * s * (1000000 * v) = mul-le-mul_left (24000 * s) least in
      omega (arith, one, all)

-- ---- the pilots

module _ (bounds : Bounds) (n : ℕ) (pattern : Pattern) (channel : Channel) (slot : SeenSlot) (pilots : ArePilotsThrough bounds n pattern channel slot) where
  -- the estimate is near 64 * 16200 times three times the line through the channel
  estimate-off : (k : ℕ) → IsOff (16200 * n) (3 * bounds.most) (multiple 1036800 (estimate (at_pilot pattern slot channel) (slot.identity % 3) k)) (pattern_channel pattern slot k)
  unfolding pattern_channel pattern_pilot
  estimate-off k =
      subst (λ (z : Cpx). IsOff (16200 * n) (3 * bounds.most) z (estimate (pattern_pilot pattern slot) (slot.identity % 3) k))
      (line-multiple 1036800 3 23 (at_pilot pattern slot channel) (omega arith) (slot.identity % 3) k)
      (line-off (16200 * n) bounds.most (λ i. multiple 1036800 (at_pilot pattern slot channel i)) (pattern_pilot pattern slot) 3 23 (omega arith) each (slot.identity % 3) k)
    where
      each : (i : ℕ) → i ≤ 23 → IsOff (16200 * n) bounds.most (multiple 1036800 (at_pilot pattern slot channel i)) (pattern_pilot pattern slot i)
      each i l =
          turned_pilot-near bounds.most n (at_pilot pattern slot channel i) (pattern_sent pattern slot.identity slot.number i) (pattern_seen pattern slot i)
          (record {
            full = sent-size pattern slot.identity slot.number i;
            seen = deviation-bounded bounds.most n (at_pilot pattern slot channel i) (pattern_sent pattern slot.identity slot.number i) (pattern_seen pattern slot i) (pilots.pilot i (omega (arith, l)));
          })

  energy-through : 1000000 * (268435456 * pattern_energy pattern slot) ≤ (8192 * bounds.mean + 1000 * bounds.most) * (8192 * bounds.mean + 1000 * bounds.most) * (24 * n)
  unfolding pattern_energy
  energy-through =
      subst (λ (e : ℕ). 1000000 * e ≤ (8192 * bounds.mean + 1000 * bounds.most) * (8192 * bounds.mean + 1000 * bounds.most) * (24 * n))
      (sym (energy_same 24 (λ i. in_parts (pattern_seen pattern slot i)) (λ i. plus (main i) (off i)) (λ i l. seen_is (h i) (d i) (pattern_seen pattern slot i)))
      ∙ energy_in_parts 24 (pattern_seen pattern slot))
      (energy-triangle 24 1000000 (8192 * bounds.mean) (1000 * bounds.most) (24 * n) main off
      (mains (energy_below 24 main) (energy_below 24 h) (terms_scaled 24 66355200 (λ i. square (main i)) (λ i. square (h i)) (λ i l. main-size i)) pilots.mean)
      (offs (energy_below 24 off) (total_below-within 24 (bounds.most * bounds.most * n) (λ i. square (off i))
      (λ i l. (deviation-bounded bounds.most n (h i) (d i) (pattern_seen pattern slot i) (pilots.pilot i l)).bounded))))
    where
      h : ℕ → Cpx
      h = at_pilot pattern slot channel

      d : ℕ → Cpx
      d = pattern_sent pattern slot.identity slot.number

      main : ℕ → Cpx
      main i = times (h i) (multiple 64 (d i))

      off : ℕ → Cpx
      off i = deviation (h i) (d i) (pattern_seen pattern slot i)

      bounded : (s w a b : ℕ) → s ≡ w * a → a ≡ 64 * 64 * b → b ≡ 16200 → s ≤ 66355200 * w
      bounded s w a b e f g =
          let k : w * a ≡ w * 66355200 = ap (λ (x : ℕ). w * x) (let j : a ≡ 66355200 = omega (arith, f, g) in j) in
          omega (arith, e, k)

      main-size : (i : ℕ) → square (main i) ≤ 66355200 * square (h i)
      main-size i = bounded (square (main i)) (square (h i)) (square (multiple 64 (d i))) (square (d i)) (square-times (h i) (multiple 64 (d i))) (square-multiple 64 (d i)) (sent-size pattern slot.identity slot.number i)

      mains : (s w : ℕ) → s ≤ 66355200 * w → 1000000 * w ≤ bounds.mean * bounds.mean * (24 * n) → 1000000 * s ≤ 8192 * bounds.mean * (8192 * bounds.mean) * (24 * n)
      mains s w f g = omega (arith, f, g)

      offs : (s : ℕ) → s ≤ 24 * (bounds.most * bounds.most * n) → 1000000 * s ≤ 1000 * bounds.most * (1000 * bounds.most) * (24 * n)
      offs s f = omega (arith, f)

-- ---- the values

pub values_speak_through : ValuesSpeakThrough
values_speak_through size n bounds pattern channel slot symbol k first second seen leave pilots read here =
    record { re = each first t.re near.re; im = each second t.im near.im }
  where
    u : ℕ
    u = bounds.least

    h : Cpx
    h = channel symbol k

    v : ℕ
    v = square (channel symbol k)

    a : Cpx
    a = point first second

    q : ℕ
    q = pattern_energy pattern slot

    channel_there : Cpx
    channel_there = pattern_channel pattern slot k

    t : Cpx
    t = times seen (conjugate (pattern_channel pattern slot k))

    line : Cpx
    line = estimate (at_pilot pattern slot channel) (slot.identity % 3) k

    bend : Cpx
    bend = minus (estimate (at_pilot pattern slot channel) (slot.identity % 3) k) (multiple 3 (channel symbol k))

    estimate_there : IsOff (16200 * n) (3 * bounds.most) (multiple 1036800 (estimate (at_pilot pattern slot channel) (slot.identity % 3) k)) (pattern_channel pattern slot k)
    estimate_there = estimate-off bounds n pattern channel slot pilots k

    point_there : Cpx
    point_there = multiple u (multiple 64 a)

    seen_there : Cpx
    seen_there = multiple u (deviation h a seen)

    off : Cpx
    off = plus (multiple (1000 * u * 1036800) bend) (multiple (1000 * u) estimate_there.off)

    coefficient : (u : ℕ) → 1000 * u * 1036800 * 3 ≡ 3110400000 * u
    coefficient u = omega arith

    estimate_is : multiple (1000 * u) (in_parts channel_there) ≡ plus (multiple (3110400000 * u) h) off
    estimate_is =
        ap (multiple (1000 * u)) (estimate_there.is ∙ ap (λ (z : Cpx). plus (multiple 1036800 z) estimate_there.off) (sym (plus-minus line (multiple 3 h))))
        ∙ opened (1000 * u) 1036800 h bend estimate_there.off ∙ ap (λ (c : ℕ). plus (multiple c h) off) (coefficient u)

    off-bounded : IsBounded (estimate_off bounds) v off
    off-bounded =
        bounded-plus (multiple (1000 * u * 1036800) bend) (multiple (1000 * u) estimate_there.off) (3110400 * (bounds.bend * bounds.least)) (384000000 * bounds.most) v
        (record { bounded = line-fits bounds n v read.least (square bend) (square (multiple (1000 * u * 1036800) bend)) (square-multiple (1000 * u * 1036800) bend) read.straight })
        (record { bounded = pilots-fit bounds n v read.least (square estimate_there.off) (square (multiple (1000 * u) estimate_there.off)) (square-multiple (1000 * u) estimate_there.off) estimate_there.small.bounded })

    seen-bounded : IsBounded (1000 * bounds.most) v seen_there
    seen-bounded = record {
      bounded = seen-fits bounds n v read.least (square (deviation h a seen)) (square seen_there) (square-multiple u (deviation h a seen)) (deviation-bounded bounds.most n h a seen here).bounded;
    }

    point-bounded : square point_there ≤ 8192 * u * (8192 * u)
    point-bounded = point-fits bounds n v read.least (square (multiple 64 a)) (square point_there) (square-multiple u (multiple 64 a)) (point-small first second)

    product : IsWithin (product_off bounds * v) (minus (times (multiple u (in_parts seen)) (conjugate (multiple (1000 * u) (in_parts channel_there)))) (multiple (3110400000 * u * v) point_there))
    product =
        subst (λ (y : Cpx). IsWithin (product_off bounds * v) (minus y (multiple (3110400000 * u * v) point_there)))
        (ap₂ (λ (x y : Cpx). times x (conjugate y)) (sym (seen_part u h a seen)) (sym estimate_is))
        (product_near h point_there seen_there off (3110400000 * u) (8192 * u) (1000 * bounds.most) (estimate_off bounds) point-bounded seen-bounded off-bounded)

    scale : ℕ
    scale = u * (1000 * u) * 268435456

    turned : times (multiple u (in_parts seen)) (conjugate (multiple (1000 * u) (in_parts channel_there))) ≡ multiple scale t
    turned =
        product-multiples u (1000 * u) (in_parts seen) (in_parts channel_there) ∙ ap (multiple (u * (1000 * u))) (product_in_parts seen channel_there)
        ∙ multiple_twice (u * (1000 * u)) 268435456 t

    main : multiple (3110400000 * u * v) point_there ≡ multiple (199065600000 * (u * u) * v) a
    main =
        multiple_twice (3110400000 * u * v) u (multiple 64 a) ∙ multiple_twice (3110400000 * u * v * u) 64 a ∙ ap (λ (c : ℕ). multiple c a) (units u v)
      where
        units : (u v : ℕ) → 3110400000 * u * v * u * 64 ≡ 199065600000 * (u * u) * v
        units u v = omega arith

    near : IsWithin (product_off bounds * v) (minus (multiple scale t) (multiple (199065600000 * (u * u) * v) a))
    near =
        subst (λ (y : Cpx). IsWithin (product_off bounds * v) (minus (multiple scale t) y)) main
        (subst (λ (y : Cpx). IsWithin (product_off bounds * v) (minus y (multiple (3110400000 * u * v) point_there))) turned product)

    some : 1 ≤ v
    some = channel-some bounds n v read.least pilots.sounds leave.reads

    few : scale * q ≤ energy_most bounds * v
    few = energy-fits bounds n v read.least q ((8192 * bounds.mean + 1000 * bounds.most) * (8192 * bounds.mean + 1000 * bounds.most)) (energy-through bounds n pattern channel slot pilots)

    less : (a b c d : ℕ) → size * a + 6 * b < c → 6 * b < c
    less a b c d l = omega (arith, l)

    enough : (a b c : ℕ) → a + 6 * b < c → a + 6 * b ≤ c
    enough a b c l = omega (arith, l)

    sounds : (q : ℕ) → pattern_energy pattern slot ≡ q → 1 ≤ q
    sounds (suc q) same = omega arith
    sounds zero same = absurd
        (none_near first t.re scale (199065600000 * (u * u)) (product_off bounds) v (re-le t 0 (nothing_there (square t) (square seen) (square (conjugate channel_there)) (square channel_there) (square-times seen (conjugate channel_there)) (square-conjugate channel_there) (channel-small pattern slot k))) some
        (less (energy_most bounds) (product_off bounds) (540 * (199065600000 * (u * u))) 0 leave.room) near.re)
      where
        nothing_there : (s x y z : ℕ) → s ≡ x * y → y ≡ z → z ≤ 145800 * pattern_energy pattern slot → s ≤ 0 * 0
        nothing_there s x y z e f g =
            let none : y ≡ 0 = omega (arith, f, g, same) in
            let all : x * y ≡ x * 0 = ap (λ (n : ℕ). x * n) none in
            omega (arith, e, all)

    scale-some : (u : ℕ) → 1 ≤ u → 1 ≤ u * (1000 * u) * 268435456
    scale-some u l =
        let all : 1 * 1 ≤ u * u = mul-le-mul l l in
        omega (arith, all)

    each : (bit : Bool) (c : ℤ) → nat_abs (pos scale *ℤ c -ℤ pos (199065600000 * (u * u) * v) *ℤ component bit) ≤ product_off bounds * v → Supports size bit (soft_value c q)
    each bit c close =
        near_component_speaks size (199065600000 * (u * u)) (product_off bounds) (energy_most bounds) leave.some leave.high (enough (size * energy_most bounds) (product_off bounds) (540 * (199065600000 * (u * u))) leave.room)
        scale v q bit c (scale-some u leave.reads) (sounds q refl) few close

-- ---- one gain

pub one_gain_leaves_room : OneGainLeavesRoom
one_gain_leaves_room = record { some = omega arith; high = omega arith; reads = omega arith; room = omega arith }

pub quiet_gain_leaves_room : QuietGainLeavesRoom
quiet_gain_leaves_room = record { some = omega arith; high = omega arith; reads = omega arith; room = omega arith }

pub one_gain_is_through : OneGainIsThrough
one_gain_is_through most pattern gain slot some seen = record {
  sounds = some;
  pilot = seen;
  mean = means (square gain) (energy_below 24 (at_pilot pattern slot (level gain))) (total_below-within 24 (square gain) (λ i. square (at_pilot pattern slot (level gain) i)) (λ i l. itself (square gain)));
}
  where
    itself : (n : ℕ) → n ≤ n
    itself n = omega arith

    means : (n e : ℕ) → e ≤ 24 * n → 1000000 * e ≤ 1000 * 1000 * (24 * n)
    means n e h = omega (arith, h)

pub one_gain_is_read : OneGainIsRead
one_gain_is_read most pattern gain slot symbol k = record {
  least = omega arith;
  straight = subst (λ (z : Cpx). 1000000 * square (minus z (multiple 3 gain)) ≤ 9 * (0 * 0) * square gain) (sym (line-level 3 23 gain (omega arith) (slot.identity % 3) k)) (none (multiple 3 gain));
}
  where
    nought : (a : ℤ) → a -ℤ a ≡ pos 0
    nought a = omega (arith, ints)

    none : (z : Cpx) → 1000000 * square (minus z z) ≤ 9 * (0 * 0) * square gain
    none z = rw (nought z.re, nought z.im) (omega arith)
