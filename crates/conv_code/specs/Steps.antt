-- Sums by stream and position in interleaved order, as the code computes them (own).
use Rattle.std.specs.Prelude.{◌≡◌, ℕ, ◌+◌, ◌*◌, ◌/◌, ◌%◌, ◌^◌, ◌<◌, ◌≤◌, ◌&&◌, cond, nat_abs, nat_eq, List, [], length, slice_index_or, ℤ, pos}
use Rattle.finite.specs.Sums.{sum_below}
use Rattle.finite.specs.Tables.{sum_at}

-- the stream, 0 to 2, to which rate-matched bit `i` belongs
abbrev pub stream_of : ℕ → ℕ → ℕ
stream_of n i = i % (3 * n) / n

-- the position of rate-matched bit `i` in its stream, in interleaved order
abbrev pub place_of : ℕ → ℕ → ℕ
place_of n i = i % (3 * n) % n

-- the sum of the soft values at position `p` of stream `t`, among the first `m` values, which start at rate-matched bit
-- `first`
unfoldable pub placed_sum : ℕ → ℕ → List ℤ → ℕ → ℕ → ℕ → ℤ
placed_sum n first values m t p =
    sum_below m
    (λ i. cond (nat_eq (stream_of n (first + i)) t && nat_eq (place_of n (first + i)) p)
    (slice_index_or values i (pos 0)) (pos 0))

-- the table `sums` holds, by stream and position in interleaved order, the sums of the first `m` soft values; each
-- sum's magnitude is at most m * 2^15
pub record HasPlacedSums (n first : ℕ) (values : List ℤ) (m : ℕ) (sums : List (List ℤ)) : Type 0 where
  pub streams : length sums ≡ 3
  pub places : (t : ℕ) → t < 3 → length (slice_index_or sums t []) ≡ n
  pub sum : (t p : ℕ) → t < 3 → p < n → sum_at sums t p ≡ placed_sum n first values m t p
  pub room : (t p : ℕ) → t < 3 → p < n → nat_abs (sum_at sums t p) ≤ m * 2 ^ 15
