-- Bounds on received values, pilots and their sums.
use Rattle.std.proofs.Common.{◌≡◌, ◌⊎◌, ℕ, ◌+◌, ◌*◌, ◌/◌, ◌^◌, ◌<◌, ◌≤◌, arith, inl, inr, sym, subst, List, length}
use Rattle.std.specs.Prelude.{All}
use Rattle.std.proofs.lemmas.Bool.{cases_lt}
use Rattle.std.proofs.lemmas.List.{get_or_past}
use Rattle.std.proofs.lemmas.Nat.{mul-le}
use Rattle.cs_num.specs.declared.Cpx.{Cpx}
use Rattle.cs_num.specs.Complex.{IsWithin, nothing, plus, multiple, times, conjugate, largest_part, value_at}
use Rattle.cs_num.proofs.Complex.{largest_part-le, times-within, conjugate-within, multiple-within, plus-within}
use Rattle.wide_cell.specs.Cell.{Cell}
use Rattle.wide_slot.specs.declared.layout.Layout.{Layout}
use Rattle.wide_slot.specs.Lines.{IsLayout, pilot_place}

-- a bound on all values holds at each index
pub value-within : (bound : ℕ) (values : List Cpx) (k : ℕ) → All (IsWithin bound) values → IsWithin bound (value_at values k)
value-within bound values k small = elim (cases_lt k (length values)) [
  | inl inside ↦ small k nothing inside
  | inr past ↦ rw (get_or_past values k nothing past) (record { re = omega arith; im = omega arith })
]

-- ---- pilots

pub product_has_room : (seen sent : Cpx) → IsWithin (2 ^ 25) seen → IsWithin 90 sent → largest_part seen * largest_part (conjugate sent) ≤ 2 ^ 61
product_has_room seen sent p q =
    omega (arith, mul-le (largest_part seen) (largest_part (conjugate sent)) (2 ^ 25) 90 (largest_part-le seen (2 ^ 25) p) (largest_part-le (conjugate sent) 90 (conjugate-within sent 90 q)))

pub product-within : (seen sent : Cpx) → IsWithin (2 ^ 25) seen → IsWithin 90 sent → IsWithin (180 * 2 ^ 25) (times seen (conjugate sent))
product-within seen sent p q = times-within seen (conjugate sent) (2 ^ 25) 90 (90 * 2 ^ 25) p (conjugate-within sent 90 q) (omega arith)

-- the subcarriers of pilots are inside the cell
place_below : (step last first blocks i : ℕ) → (step ≡ 3) ⊎ (step ≡ 6) → step * (last + 1) ≡ 12 * blocks → first < step → i ≤ last →
    (first + step * i) / 6 < 2 * blocks
place_below step last first blocks i (inl e) whole begins inside =
    let w = subst (λ s. s * (last + 1) ≡ 12 * blocks) e whole in
    let f = subst (λ s. first < s) e begins in
    subst (λ s. (first + s * i) / 6 < 2 * blocks) (sym e) (omega (arith, w, f, inside))
place_below step last first blocks i (inr e) whole begins inside =
    let w = subst (λ s. s * (last + 1) ≡ 12 * blocks) e whole in
    let f = subst (λ s. first < s) e begins in
    subst (λ s. (first + s * i) / 6 < 2 * blocks) (sym e) (omega (arith, w, f, inside))

pub pilot_below : (cell : Cell) (layout : Layout) (i : ℕ) → IsLayout cell layout → i ≤ layout.last → pilot_place layout i / 6 < 2 * cell.blocks
pilot_below cell layout i valid inside = place_below layout.step layout.last layout.first cell.blocks i valid.step valid.whole valid.first inside

-- ---- smoothed pilots

pub weighted-within : (n m : ℕ) (a b c : Cpx) → 2 * n + m ≤ 8 → IsWithin (180 * 2 ^ 25) a → IsWithin (180 * 2 ^ 25) b → IsWithin (180 * 2 ^ 25) c →
    IsWithin (1440 * 2 ^ 25) (plus (plus (multiple n a) (multiple m b)) (multiple n c))
weighted-within n m a b c few p q r =
    let two = plus-within (multiple n a) (multiple m b) (n * (180 * 2 ^ 25)) (m * (180 * 2 ^ 25)) ((n + m) * (180 * 2 ^ 25))
    (multiple-within n a (180 * 2 ^ 25) p) (multiple-within m b (180 * 2 ^ 25) q) (omega arith) in
    plus-within (plus (multiple n a) (multiple m b)) (multiple n c) ((n + m) * (180 * 2 ^ 25)) (n * (180 * 2 ^ 25)) (1440 * 2 ^ 25)
    two (multiple-within n c (180 * 2 ^ 25) r) (omega (arith, few))

pub two_have_room : (n m : ℕ) (a b : Cpx) → 2 * n + m ≤ 8 → IsWithin (180 * 2 ^ 25) a → IsWithin (180 * 2 ^ 25) b → largest_part (multiple n a) + largest_part (multiple m b) < 2 ^ 63
two_have_room n m a b few p q =
    omega (arith, few, largest_part-le (multiple n a) (n * (180 * 2 ^ 25)) (multiple-within n a (180 * 2 ^ 25) p), largest_part-le (multiple m b) (m * (180 * 2 ^ 25)) (multiple-within m b (180 * 2 ^ 25) q))

pub three_have_room : (n m : ℕ) (a b c : Cpx) → 2 * n + m ≤ 8 → IsWithin (180 * 2 ^ 25) a → IsWithin (180 * 2 ^ 25) b → IsWithin (180 * 2 ^ 25) c →
    largest_part (plus (multiple n a) (multiple m b)) + largest_part (multiple n c) < 2 ^ 63
three_have_room n m a b c few p q r =
    let two = plus-within (multiple n a) (multiple m b) (n * (180 * 2 ^ 25)) (m * (180 * 2 ^ 25)) ((n + m) * (180 * 2 ^ 25))
    (multiple-within n a (180 * 2 ^ 25) p) (multiple-within m b (180 * 2 ^ 25) q) (omega arith) in
    omega (arith, few, largest_part-le _ _ two, largest_part-le (multiple n c) (n * (180 * 2 ^ 25)) (multiple-within n c (180 * 2 ^ 25) r))
