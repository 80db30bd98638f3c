-- Step costs from the shared table, by pairs of states.
use Rattle.std.proofs.Common.{◌≡◌, ◌≢◌, ℕ, ◌+◌, ◌*◌, ◌/◌, ◌%◌, ◌<◌, min, false, List, length, get_or, set, ℤ, refl, ap, ap₂, arith, get_or-set_other, get_or-set_same, below_more}
use Rattle.std.proofs.lemmas.List.{length-set}
use Rattle.trellis.specs.Rows.{least_out}
use Rattle.trellis.proofs.Rows.{row_more}
use Rattle.tailbite.specs.Machine.{shift, first_from, newest_bit, second_from, forward_least}
use Rattle.tailbite.specs.Costs.{AreCosts, shared_cost, shared_least}

-- ---- backward

pub even_half : (h : ℕ) → shift (2 * h) false ≡ h
even_half h = omega arith

pub odd_half : (h : ℕ) → shift (2 * h + 1) false ≡ h
odd_half h = omega arith

pub even_out : (costs row : List ℕ) (h : ℕ) →
    least_out shift (shared_cost costs) row (2 * h) ≡ min (get_or costs h 0 + get_or row h 0) (get_or costs (h + 32) 0 + get_or row (h + 32) 0)
even_out costs row h =
    let bit : 2 * h % 2 ≡ 0 = omega arith in
    let half : 2 * h / 2 ≡ h = omega arith in
    let none : h + 0 ≡ h = omega arith in
    rw (bit, half, none) refl

pub odd_out : (costs row : List ℕ) (h : ℕ) →
    least_out shift (shared_cost costs) row (2 * h + 1) ≡ min (get_or costs (h + 32) 0 + get_or row h 0) (get_or costs h 0 + get_or row (h + 32) 0)
odd_out costs row h =
    let bit : (2 * h + 1) % 2 ≡ 1 = omega arith in
    let half : (2 * h + 1) / 2 ≡ h = omega arith in
    let none : h + 0 ≡ h = omega arith in
    rw (bit, half, none) refl

-- ---- forward

pub low_in : (costs row : List ℕ) (h : ℕ) → h < 32 →
    shared_least costs row h ≡ min (get_or row (2 * h) 0 + get_or costs h 0) (get_or row (2 * h + 1) 0 + get_or costs (h + 32) 0)
low_in costs row h below =
    let same : h % 32 ≡ h = omega arith in
    let newest : h / 32 % 2 ≡ 0 = omega arith in
    let bit : 2 * h % 2 ≡ 0 = omega arith in
    let half : 2 * h / 2 ≡ h = omega arith in
    let bit' : (2 * h + 1) % 2 ≡ 1 = omega arith in
    let half' : (2 * h + 1) / 2 ≡ h = omega arith in
    let none : h + 0 ≡ h = omega arith in
    rw (same, newest, bit, half, bit', half', none) refl

pub high_in : (costs row : List ℕ) (h : ℕ) → h < 32 →
    shared_least costs row (h + 32) ≡ min (get_or row (2 * h) 0 + get_or costs (h + 32) 0) (get_or row (2 * h + 1) 0 + get_or costs h 0)
high_in costs row h below =
    let same : (h + 32) % 32 ≡ h = omega arith in
    let newest : (h + 32) / 32 % 2 ≡ 1 = omega arith in
    let bit : 2 * h % 2 ≡ 0 = omega arith in
    let half : 2 * h / 2 ≡ h = omega arith in
    let bit' : (2 * h + 1) % 2 ≡ 1 = omega arith in
    let half' : (2 * h + 1) / 2 ≡ h = omega arith in
    let none : h + 0 ≡ h = omega arith in
    rw (same, newest, bit, half, bit', half', none) refl

-- two halves of a row are written together
pub halves_more : (P : ℕ → ℕ → Type 0) (row : List ℕ) (h v w : ℕ) → h < 32 → length row ≡ 64 →
    ((k : ℕ) → k < h → P k (get_or row k 0)) → ((k : ℕ) → k < h → P (k + 32) (get_or row (k + 32) 0)) → P h v → P (h + 32) w →
    ((k : ℕ) → k < h + 1 → P k (get_or (set (set row h v) (h + 32) w) k 0)) × ((k : ℕ) → k < h + 1 → P (k + 32) (get_or (set (set row h v) (h + 32) w) (k + 32) 0))
halves_more P row h v w below long low high here there = (
  λ k inside.
      let apart : k ≢ h + 32 = omega (arith, inside, below) in
      rw (get_or-set_other (set row h v) (h + 32) k w 0 apart) (row_more P row h v (omega (arith, below, long)) low here k inside),
  below_more _ _
      (λ k inside.
      let apart : k + 32 ≢ h + 32 = omega (arith, inside) in
      let apart' : k + 32 ≢ h = omega (arith, below) in
      rw (get_or-set_other (set row h v) (h + 32) (k + 32) w 0 apart, get_or-set_other row h (k + 32) v 0 apart') (high k inside))
      (let size : length (set row h v) ≡ length row = length-set row h v in
      rw (get_or-set_same (set row h v) (h + 32) w 0 (omega (arith, below, long, size))) there),
)

-- the minimum cost from the shared table is that for the position's values
pub shared_least-is : (values : List ℤ) (costs row : List ℕ) (x : ℕ) → AreCosts values costs → x < 64 → shared_least costs row x ≡ forward_least values row x
shared_least-is values costs row x are below =
    ap₂ min (ap (λ c. get_or row (first_from x) 0 + c) (are.cost (first_from x) (newest_bit x) (omega arith)))
    (ap (λ c. get_or row (second_from x) 0 + c) (are.cost (second_from x) (newest_bit x) (omega arith)))
