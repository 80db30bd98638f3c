-- The Boolean test for a maximum, which agrees with the definition in `Maxima`. (own)
use Rattle.std.specs.Prelude.{ℕ, ◌+◌, ◌-◌, ◌%◌, List, Bool, nat_lt, nat_le, ◌&&◌}
use Rattle.finite.specs.Tests.{every_below}
use Rattle.lte_types.specs.Numerology.{half_frame_length}
use Rattle.pss_search.specs.Hits.{first_place}
use Rattle.accumulated_pss.specs.Sums.{sum_at}

-- the position `d` samples after position `t`, on the circle of a half-frame
abbrev pub position_after : ℕ → ℕ → ℕ
position_after t d = first_place + (t - first_place + d) % half_frame_length

-- whether the sum `d` + 1 positions after `t` is not greater than the sum at `t`, and the sum `d` + 1 positions before
-- `t` is less
unfoldable pub stands_out_by : List ℕ → ℕ → ℕ → Bool
stands_out_by row t d = nat_le (sum_at row (position_after t (d + 1))) (sum_at row t) &&
    nat_lt (sum_at row (position_after t (half_frame_length - 1 - d))) (sum_at row t)

-- whether no sum within nine positions of `t` is greater than the sum at `t`, and no sum in the nine before is equal
unfoldable pub stands_out : List ℕ → ℕ → Bool
stands_out row t = every_below 9 (stands_out_by row t)

-- whether position `t` is a maximum
unfoldable pub is_maximum : List ℕ → ℕ → Bool
is_maximum row t = nat_lt 0 (sum_at row t) && stands_out row t
