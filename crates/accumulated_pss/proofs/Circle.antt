-- Positions on the circle of a half-frame.
use Rattle.std.proofs.Common.{◌≡◌, ◌⊎◌, inl, inr, ℕ, ◌+◌, ◌-◌, ◌%◌, ◌<◌, ◌≤◌, ◌&&◌, Bool, nat_lt, nat_le, List, get_or, min, arith, ap, ap₂}
use Rattle.std.proofs.lemmas.Bool.{cases_lt}
use Rattle.accumulated_pss.specs.Sums.{IsPosition, sum_at}
use Rattle.accumulated_pss.specs.Tests.{position_after, stands_out_by, stands_out, is_maximum}
use Rattle.accumulated_pss.specs.Maxima.{steps, distance}

pub after_position : (t d : ℕ) → IsPosition (position_after t d)
after_position t d = record { from_first = omega arith; to_last = omega arith }

-- a position that is d samples after another
pub after_is : (t u d : ℕ) → IsPosition t → IsPosition u → steps t u ≡ d → position_after t d ≡ u
after_is t u d p q e = plain p.from_first p.to_last q.from_first q.to_last e
  where
    plain : 137 ≤ t → t ≤ 9736 → 137 ≤ u → u ≤ 9736 → (u + 9600 - t) % 9600 ≡ d → 137 + (t - 137 + d) % 9600 ≡ u
    plain a b c f g = omega (arith, a, b, c, f, g)

-- a position that is d samples before another
pub before_is : (t u d : ℕ) → IsPosition t → IsPosition u → 1 ≤ d → d ≤ 9 → steps u t ≡ d → position_after t (9600 - d) ≡ u
before_is t u d p q low high e = plain p.from_first p.to_last q.from_first q.to_last e
  where
    plain : 137 ≤ t → t ≤ 9736 → 137 ≤ u → u ≤ 9736 → (t + 9600 - u) % 9600 ≡ d → 137 + (t - 137 + (9600 - d)) % 9600 ≡ u
    plain a b c f g = omega (arith, a, b, c, f, g, low, high)

pub steps_after : (t d : ℕ) → IsPosition t → d < 9600 → steps t (position_after t d) ≡ d
steps_after t d p l = plain p.from_first p.to_last
  where
    plain : 137 ≤ t → t ≤ 9736 → (137 + (t - 137 + d) % 9600 + 9600 - t) % 9600 ≡ d
    plain a b = omega (arith, a, b, l)

pub steps_before : (t d : ℕ) → IsPosition t → 1 ≤ d → d ≤ 9 → steps (position_after t (9600 - d)) t ≡ d
steps_before t d p low high = plain p.from_first p.to_last
  where
    plain : 137 ≤ t → t ≤ 9736 → (t + 9600 - (137 + (t - 137 + (9600 - d)) % 9600)) % 9600 ≡ d
    plain a b = omega (arith, a, b, low, high)

-- a position that is no step away is the same
pub no_step : (t u : ℕ) → IsPosition t → IsPosition u → steps t u ≡ 0 → t ≡ u
no_step t u p q e = plain p.from_first p.to_last q.from_first q.to_last e
  where
    plain : 137 ≤ t → t ≤ 9736 → 137 ≤ u → u ≤ 9736 → (u + 9600 - t) % 9600 ≡ 0 → t ≡ u
    plain a b c f g = omega (arith, a, b, c, f, g)

-- the nearer way is forwards or backwards
pub near_cases : (t u : ℕ) → distance t u ≤ 9 → (steps t u ≤ 9) ⊎ (steps u t ≤ 9)
near_cases t u near = by (steps t u) (steps u t) near
  where
    by : (a b : ℕ) → min a b ≤ 9 → (a ≤ 9) ⊎ (b ≤ 9)
    by a b l = elim (cases_lt 9 a) [
      | inl far ↦ inr (omega (arith, l, far))
      | inr close ↦ inl close
    ]

pub near_forwards : (t u d : ℕ) → steps t u ≡ d → d ≤ 9 → distance t u ≤ 9
near_forwards t u d e l = by (steps t u) (steps u t) e
  where
    by : (a b : ℕ) → a ≡ d → min a b ≤ 9
    by a b same = omega (arith, same, l)

pub near_backwards : (t u d : ℕ) → steps u t ≡ d → d ≤ 9 → distance t u ≤ 9
near_backwards t u d e l = by (steps t u) (steps u t) e
  where
    by : (a b : ℕ) → b ≡ d → min a b ≤ 9
    by a b same = omega (arith, same, l)

-- ---- sums by index

pub sum_here : (row : List ℕ) (i : ℕ) → sum_at row (137 + i) ≡ get_or row i 0
sum_here row i = ap (λ k. get_or row k 0) (let e : 137 + i - 137 ≡ i = omega arith in e)

sum_after : (row : List ℕ) (i d : ℕ) → sum_at row (position_after (137 + i) d) ≡ get_or row ((i + d) % 9600) 0
sum_after row i d = ap (λ k. get_or row k 0) (let e : 137 + (137 + i - 137 + d) % 9600 - 137 ≡ (i + d) % 9600 = omega arith in e)

pub stands_out_by_is : (row : List ℕ) (i d : ℕ) → stands_out_by row (137 + i) d
    ≡ (nat_le (get_or row ((i + (d + 1)) % 9600) 0) (get_or row i 0) && nat_lt (get_or row ((i + (9600 - 1 - d)) % 9600) 0) (get_or row i 0))
unfolding stands_out_by
stands_out_by_is row i d =
    ap₂ (λ (a b : Bool). a && b) (ap₂ nat_le (sum_after row i (d + 1)) (sum_here row i)) (ap₂ nat_lt (sum_after row i (9600 - 1 - d)) (sum_here row i))

pub is_maximum_is : (row : List ℕ) (i : ℕ) → is_maximum row (137 + i) ≡ (nat_lt 0 (get_or row i 0) && stands_out row (137 + i))
unfolding is_maximum
is_maximum_is row i = ap (λ n. nat_lt 0 n && stands_out row (137 + i)) (sum_here row i)
