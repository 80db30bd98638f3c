-- Maxima of a row of sums, their order, and the candidates among them. (own)
use Rattle.std.specs.Prelude.{◌≢◌, ℕ, ◌+◌, ◌-◌, ◌%◌, ◌<◌, ◌≤◌, min, List, length, filter, Bool, nat_lt, ◌==◌, ◌&&◌, ◌||◌}
use Rattle.finite.specs.Lists.{values_below}
use Rattle.lte_types.specs.Numerology.{half_frame_length}
use Rattle.pss_search.specs.Hits.{first_place}
use Rattle.accumulated_pss.specs.Sums.{IsPosition, sum_at}
use Rattle.accumulated_pss.specs.Tests.{is_maximum}

-- ---- the circle of a half-frame

-- the samples from position `t` to position `u`, forwards on the circle of a half-frame
abbrev pub steps : ℕ → ℕ → ℕ
steps t u = (u + half_frame_length - t) % half_frame_length

-- the distance of two positions on the circle
abbrev pub distance : ℕ → ℕ → ℕ
distance t u = min (steps t u) (steps u t)

-- ---- maxima

-- Position `t` is a maximum: its sum is not 0, no position at a distance of at most 9 has a greater sum, and none of
-- the 9 positions before it has an equal sum.
pub record IsMaximum (row : List ℕ) (t : ℕ) : Type 0 where
  pub position : IsPosition t
  pub positive : 0 < sum_at row t
  pub none_greater : (u : ℕ) → IsPosition u → distance t u ≤ 9 → sum_at row u ≤ sum_at row t
  pub none_equal_before : (u : ℕ) → IsPosition u → 1 ≤ steps u t → steps u t ≤ 9 → sum_at row u ≢ sum_at row t

-- the positions of the maxima, in ascending order
unfoldable pub maxima : List ℕ → List ℕ
maxima row = filter (is_maximum row) (values_below half_frame_length (λ i. first_place + i))

-- ---- candidates

-- whether position `t` precedes position `u`: its sum is greater, or the sums are equal and `t` is earlier
unfoldable pub precedes : List ℕ → ℕ → ℕ → Bool
precedes row t u = nat_lt (sum_at row u) (sum_at row t) || ((sum_at row t == sum_at row u) && nat_lt t u)

-- the number of maxima that precede position `t`
abbrev pub rank : List ℕ → ℕ → ℕ
rank row t = length (filter (λ u. precedes row u t) (maxima row))

-- position `t` is a candidate: a maximum that fewer than 64 maxima precede
pub record IsCandidate (row : List ℕ) (t : ℕ) : Type 0 where
  pub maximum : IsMaximum row t
  pub rank : rank row t < 64

-- the candidates in ascending order
unfoldable pub candidates : List ℕ → List ℕ
candidates row = filter (λ t. nat_lt (rank row t) 64) (maxima row)
