-- A slot whose symbols have slowly varying gains is received through these gains.
use Rattle.std.proofs.Common.{◌≡◌, ℕ, zero, suc, ◌+◌, ◌*◌, ◌^◌, ◌%◌, ◌<◌, ◌≤◌, inl, inr, arith, ap, ap₂, sym, subst, ◌∙◌, List, mul-le-mul, mul-le-mul_left, mul-le-mul_right}
use Rattle.std.proofs.lemmas.Bool.{cases_lt}
use Rattle.finite.specs.Sums.{total_below}
use Rattle.cs_num.specs.declared.Cpx.{Cpx}
use Rattle.cs_num.specs.declared.Sample.{Sample}
use Rattle.cs_num.specs.Complex.{plus, times, square, minus, multiple}
use Rattle.norms.specs.Magnitudes.{IsBounded, energy_below}
use Rattle.norms.proofs.Algebra.{plus-minus, minus-plus, multiple-plus}
use Rattle.norms.proofs.Squares.{square-multiple}
use Rattle.norms.proofs.Bounded.{bounded-plus}
use Rattle.norms.proofs.Products.{bounded-multiple}
use Rattle.crs.specs.Reference.{port_0}
use Rattle.soft_bits.specs.Estimate.{estimate}
use Rattle.soft_bits.specs.Soft.{SeenSlot, seen_at, pilot_subcarrier, pattern_symbol, pattern_seen}
use Rattle.budget.specs.Received.{in_parts, IsSeenNear}
use Rattle.budget.specs.Through.{at_pilot, ArePilotsThrough, IsReadThrough}
use Rattle.budget.proofs.Parts.{multiple-swaps}
use Rattle.budget.proofs.Near.{IsOff, off-size, line-off, line-multiple, line-level}
use Rattle.budget.proofs.Seen.{units_are_seen}
use Rattle.clean_air.specs.Fading.{IsSlotFading, by_symbol, fading_bounds, LeaveFadingRoom, IsThroughGains, FadingSlotIsThrough}
use Rattle.clean_air.proofs.SoftValues.{place_seen, symbol-few}

-- ---- the minimum of some numbers

record IsLeast (count : ℕ) (f : ℕ → ℕ) : Type 0 where
  at : ℕ
  inside : at < count
  least : (l : ℕ) → l < count → f at ≤ f l

itself : (n : ℕ) → n ≤ n
itself n = omega arith

least_of : (n : ℕ) (f : ℕ → ℕ) → IsLeast (suc n) f
least_of zero f = record { at = 0; inside = omega arith; least = λ l few. subst (λ m. f 0 ≤ f m) (let none : 0 ≡ l = omega (arith, few) in none) (itself (f 0)) }
least_of (suc n) f = with_last (least_of n f)
  where
    chain : (a b c : ℕ) → a ≤ b → b ≤ c → a ≤ c
    chain a b c h k = omega (arith, h, k)

    below : (a b : ℕ) → a < b → a ≤ b
    below a b h = omega (arith, h)

    with_last : IsLeast (suc n) f → IsLeast (suc (suc n)) f
    with_last before = elim (cases_lt (f (suc n)) (f before.at)) [
      | inl less ↦ record {
        at = suc n;
        inside = omega arith;
        least = λ l few. elim (cases_lt l (suc n)) [
          | inl early ↦ chain (f (suc n)) (f before.at) (f l) (below (f (suc n)) (f before.at) less) (before.least l early)
          | inr late ↦ subst (λ m. f (suc n) ≤ f m) (let same : suc n ≡ l = omega (arith, few, late) in same) (itself (f (suc n)))
        ];
      }
      | inr more ↦ record {
        at = before.at;
        inside = let low = before.inside in omega (arith, low);
        least = λ l few. elim (cases_lt l (suc n)) [
          | inl early ↦ before.least l early
          | inr late ↦ subst (λ m. f before.at ≤ f m) (let same : suc n ≡ l = omega (arith, few, late) in same) more
        ];
      }
    ]

-- ---- two gains

multiple-minus : (m : ℕ) (a b : Cpx) → minus (multiple m a) (multiple m b) ≡ multiple m (minus a b)
multiple-minus m a b =
    ap (λ (z : Cpx). minus z (multiple m b)) (ap (multiple m) (sym (plus-minus a b)) ∙ multiple-plus m b (minus a b)) ∙ minus-plus (multiple m b) (multiple m (minus a b))

-- 1000 times a gain is 1000 times another one, up to their difference
module _ (bend : ℕ) (g h : Cpx) (slow : 1000000 * square (minus g h) ≤ bend * bend * square h) where
  difference : Cpx
  difference = multiple 1000 (minus g h)

  is-other : multiple 1000 g ≡ plus (multiple 1000 h) difference
  unfolding difference
  is-other = ap (multiple 1000) (sym (plus-minus g h)) ∙ multiple-plus 1000 h (minus g h)

  difference-bounded : IsBounded bend (square h) difference
  unfolding difference
  difference-bounded = record { bounded = fits (square (minus g h)) (square (multiple 1000 (minus g h))) (square-multiple 1000 (minus g h)) slow }
    where
      fits : (s t : ℕ) → t ≡ 1000 * 1000 * s → 1000000 * s ≤ bend * bend * square h → t ≤ bend * bend * square h
      fits s t same l = omega (arith, same, l)

  -- a gain is not much greater than another one
  not-much-greater : 1000000 * square g ≤ (1000 + bend) * (1000 + bend) * square h
  not-much-greater =
      back (square g) (square (multiple 1000 g)) (square-multiple 1000 g)
      (subst (λ (z : Cpx). square z ≤ (1000 + bend) * (1000 + bend) * square h) (sym is-other)
      (bounded-plus (multiple 1000 h) difference 1000 bend (square h) (record { bounded = thousand (square h) (square (multiple 1000 h)) (square-multiple 1000 h) }) difference-bounded).bounded)
    where
      thousand : (s t : ℕ) → t ≡ 1000 * 1000 * s → t ≤ 1000 * 1000 * s
      thousand s t same = omega (arith, same)

      back : (s t : ℕ) → t ≡ 1000 * 1000 * s → t ≤ (1000 + bend) * (1000 + bend) * square h → 1000000 * s ≤ (1000 + bend) * (1000 + bend) * square h
      back s t same l = omega (arith, same, l)

  off-other : IsOff (square h) (16384 * bend) (in_parts (multiple 1000 h)) (multiple 1000 g)
  off-other = record {
    off = in_parts difference;
    is = ap in_parts is-other ∙ multiple-plus 16384 (multiple 1000 h) difference;
    small = bounded-multiple 16384 difference bend (square h) difference-bounded;
  }

-- ---- the line through the gains of pilots

-- if each pilot's gain is close to a given one, so is the line through the pilots
line-straight : (bend : ℕ) (h : Cpx) (pilots : ℕ → Cpx) → ((i : ℕ) → i < 24 → 1000000 * square (minus (pilots i) h) ≤ bend * bend * square h) → (shift k : ℕ) →
    1000000 * square (minus (estimate pilots shift k) (multiple 3 h)) ≤ 9 * (bend * bend) * square h
line-straight bend h pilots slow shift k =
    fits (square (minus line (multiple 3 h))) (square (multiple 1000 (minus line (multiple 3 h)))) (square (in_parts (multiple 1000 (minus line (multiple 3 h)))))
    (square-multiple 1000 (minus line (multiple 3 h))) (square-multiple 16384 (multiple 1000 (minus line (multiple 3 h))))
    (subst (λ (z : Cpx). square z ≤ 3 * (16384 * bend) * (3 * (16384 * bend)) * square h) same (off-size (square h) (3 * (16384 * bend)) centre (estimate (λ i. multiple 1000 (pilots i)) shift k) near))
  where
    line : Cpx
    line = estimate pilots shift k

    centre : Cpx
    centre = estimate (λ i. in_parts (multiple 1000 h)) shift k

    near : IsOff (square h) (3 * (16384 * bend)) (estimate (λ i. in_parts (multiple 1000 h)) shift k) (estimate (λ i. multiple 1000 (pilots i)) shift k)
    near =
        line-off (square h) (16384 * bend) (λ i. in_parts (multiple 1000 h)) (λ i. multiple 1000 (pilots i)) 3 23 (omega arith)
        (λ i l. off-other bend (pilots i) h (slow i (omega (arith, l)))) shift k

    same : minus (in_parts (estimate (λ i. multiple 1000 (pilots i)) shift k)) centre ≡ in_parts (multiple 1000 (minus line (multiple 3 h)))
    same =
        ap₂ minus (ap in_parts (line-multiple 1000 3 23 pilots (omega arith) shift k))
        (line-level 3 23 (in_parts (multiple 1000 h)) (omega arith) shift k ∙ multiple-swaps 3 16384 (multiple 1000 h) ∙ ap in_parts (multiple-swaps 3 1000 h))
        ∙ multiple-minus 16384 (multiple 1000 line) (multiple 1000 (multiple 3 h)) ∙ ap in_parts (multiple-minus 1000 line (multiple 3 h))

    fits : (s t u : ℕ) → t ≡ 1000 * 1000 * s → u ≡ 16384 * 16384 * t → u ≤ 3 * (16384 * bend) * (3 * (16384 * bend)) * square h → 1000000 * s ≤ 9 * (bend * bend) * square h
    fits s t u e f l = omega (arith, e, f, l)

-- ---- sums

scaled-total : (count r c : ℕ) (f : ℕ → ℕ) → ((i : ℕ) → i < count → r * f i ≤ c) → r * total_below count f ≤ count * c
unfolding total_below
scaled-total zero r c f each = omega arith
scaled-total (suc count) r c f each =
    let before = scaled-total count r c f (λ i l. each i (omega (arith, l))) in
    let here = each count (omega arith) in
    omega (arith, before, here)

-- ---- the slot

module _ (quota bend : ℕ) (leave : LeaveFadingRoom quota bend) (recording : List Sample) (starts : ℕ → ℕ) (gains : ℕ → Cpx) (grids : ℕ → ℕ → Cpx) (slot : SeenSlot)
    (is : IsSlotFading quota bend recording starts gains grids slot) where
  abbrev weak : IsLeast 7 (λ l. square (gains l))
  weak = least_of 6 (λ l. square (gains l))

  abbrev size : ℕ
  size = square (gains weak.at)

  -- a resource element is observed with bounds relative to the weakest gain
  seen_beside : (l k : ℕ) → l < 7 → k < 72 → IsSeenNear leave.most size (times (gains l) (grids l k)) (seen_at slot l k)
  seen_beside l k few inside = record {
    off = wider (1000 + bend) leave.own leave.most (square (minus (in_parts (seen_at slot l k)) (multiple 64 (times (gains l) (grids l k))))) (square (gains l)) size leave.wider
        (not-much-greater bend (gains l) (gains weak.at) (is.slow l weak.at few weak.inside))
        (place_seen quota leave.own (units_are_seen quota leave.own leave.units).1 recording (starts l) (gains l) (grids l) slot l k (is.shown l few) (is.amplitudes l few) (is.received l few) inside).off;
  }
    where
      wider : (b own most s v n : ℕ) → own * b ≤ 1000 * most → 1000000 * v ≤ b * b * n → s ≤ own * own * v → s ≤ most * most * n
      wider b own most s v n h greater small =
          let one : own * own * (1000000 * v) ≤ own * own * (b * b * n) = mul-le-mul_left (own * own) greater in
          let squares : own * b * (own * b) ≤ 1000 * most * (1000 * most) = mul-le-mul h h in
          let all : own * b * (own * b) * n ≤ 1000 * most * (1000 * most) * n = mul-le-mul_right n squares in
          omega (arith, small, one, all)

  pilot-slow : (l i : ℕ) → l < 7 → 1000000 * square (minus (at_pilot port_0 slot (by_symbol gains) i) (gains l)) ≤ bend * bend * square (gains l)
  pilot-slow l i few = is.slow (pattern_symbol port_0 slot.identity i) l (symbol-few 7 port_0 slot.identity i (omega arith)) few

  pilots_through : ArePilotsThrough (fading_bounds leave.most bend) size port_0 (by_symbol gains) slot
  unfolding pattern_seen
  pilots_through = record {
    sounds = some size (is.received weak.at weak.inside).sounds;
    pilot = λ i l. subst (λ (z : Cpx). IsSeenNear leave.most size (times (gains (pattern_symbol port_0 slot.identity i)) z) (seen_at slot (pattern_symbol port_0 slot.identity i) (pilot_subcarrier slot.identity i))) (is.references i l)
        (seen_beside (pattern_symbol port_0 slot.identity i) (pilot_subcarrier slot.identity i) (symbol-few 7 port_0 slot.identity i (omega arith)) (omega (arith, l)));
    mean = mean-fits (1000 + bend) size (energy_below 24 (at_pilot port_0 slot (by_symbol gains)))
        (scaled-total 24 1000000 ((1000 + bend) * (1000 + bend) * size) (λ i. square (at_pilot port_0 slot (by_symbol gains) i))
        (λ i l. not-much-greater bend (gains (pattern_symbol port_0 slot.identity i)) (gains weak.at) (pilot-slow weak.at i weak.inside)));
  }
    where
      some : (n : ℕ) → 2 ^ 28 ≤ n → 1 ≤ n
      some n h = omega (arith, h)

      mean-fits : (b n e : ℕ) → 1000000 * e ≤ 24 * (b * b * n) → 1000000 * e ≤ b * b * (24 * n)
      mean-fits b n e h = omega (arith, h)

  read_through : (l k : ℕ) → l < 7 → IsReadThrough (fading_bounds leave.most bend) size port_0 (by_symbol gains) slot l k
  read_through l k few = record {
    least = million size (square (gains l)) (weak.least l few);
    straight = line-straight bend (gains l) (at_pilot port_0 slot (by_symbol gains)) (λ i inside. pilot-slow l i few) (slot.identity % 3) k;
  }
    where
      million : (n v : ℕ) → n ≤ v → 1000 * 1000 * n ≤ 1000000 * v
      million n v h = omega (arith, h)

  through_gains : IsThroughGains (fading_bounds leave.most bend) gains grids slot
  through_gains = record {
    weakest = weak.at;
    few = weak.inside;
    through = record {
      room = leave.room;
      pilots = pilots_through;
      read = λ symbol k first second few inside same. read_through symbol k few;
      seen = λ symbol k first second few inside same.
          subst (λ (z : Cpx). IsSeenNear leave.most size (times (gains symbol) z) (seen_at slot symbol k)) same (seen_beside symbol k few inside);
    };
  }

pub fading_slot_is_through : FadingSlotIsThrough
fading_slot_is_through quota bend leave recording starts gains grids slot is = through_gains quota bend leave recording starts gains grids slot is

-- ---- numbers

-- a difference of 1/20
pub slow_leaves_room : LeaveFadingRoom 1400 50
slow_leaves_room = record {
  own = 2088;
  most = 2193;
  units = record { errors = 424; enough = omega arith; fits = omega arith };
  wider = omega arith;
  room = record { some = omega arith; high = omega arith; reads = omega arith; room = omega arith };
}

-- the phase change by 60 Hz in the 822 samples from symbol 0 to symbol 6
pub turning_leaves_room : LeaveFadingRoom 600 162
turning_leaves_room = record {
  own = 1504;
  most = 1748;
  units = record { errors = 278; enough = omega arith; fits = omega arith };
  wider = omega arith;
  room = record { some = omega arith; high = omega arith; reads = omega arith; room = omega arith };
}

-- one gain
pub still_leaves_room : LeaveFadingRoom 1800 0
still_leaves_room = record {
  own = 2316;
  most = 2316;
  units = record { errors = 481; enough = omega arith; fits = omega arith };
  wider = omega arith;
  room = record { some = omega arith; high = omega arith; reads = omega arith; room = omega arith };
}
