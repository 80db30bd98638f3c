-- Rows of path metrics: one minimum cost per state, step by step (own).
use Rattle.std.specs.Prelude.{ℕ, ◌+◌, ◌*◌, ◌<◌, ◌≤◌, min, nat_lt, Bool, true, false, List, slice_index}
use Rattle.trellis.specs.Least.{IsLeastTo}

-- the minimum cost to a state that is entered from state `p` by the bit `b` and from state `q` by the bit `d`; `row`
-- holds the minimum cost to each state one step earlier
abbrev pub least_in : (ℕ → Bool → ℕ) → List ℕ → ℕ → Bool → ℕ → Bool → ℕ
least_in edge row p b q d = min (slice_index row p + edge p b) (slice_index row q + edge q d)

-- the minimum cost from state `x`; `row` holds the minimum cost from each state one step later
abbrev pub least_out : (ℕ → Bool → ℕ) → (ℕ → Bool → ℕ) → List ℕ → ℕ → ℕ
least_out next edge row x =
    min (edge x false + slice_index row (next x false)) (edge x true + slice_index row (next x true))

-- the first bit on a cheapest path from state `x`; a tie gives 0
abbrev pub bit_out : (ℕ → Bool → ℕ) → (ℕ → Bool → ℕ) → List ℕ → ℕ → Bool
bit_out next edge row x =
    nat_lt (edge x true + slice_index row (next x true)) (edge x false + slice_index row (next x false))

-- `row` holds the minimum cost of `k` steps to each state below `limit`, start costs included, and each of these costs
-- is at most `first` plus `most` per step
pub record IsLeastRow (next : ℕ → Bool → ℕ) (c : ℕ → ℕ → Bool → ℕ) (starts : ℕ → ℕ)
    (limit first most k : ℕ) (row : List ℕ) : Type 0 where
  pub least : (x : ℕ) → x < limit → IsLeastTo next c starts limit k x (slice_index row x)
  pub room : (x : ℕ) → x < limit → slice_index row x ≤ first + k * most
