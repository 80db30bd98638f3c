-- The inequalities that a table's bounds must satisfy, for one branch and for one step (own).
use Rattle.std.specs.Prelude.{◌≢◌, ℕ, ◌+◌, ◌<◌, ◌≤◌, true, false, List, slice_index}
use Rattle.tailbite.specs.Machine.{shift}
use Rattle.tailbite.specs.Costs.{shared_cost}
use Rattle.tail_cert.specs.Certificate.{unbounded}

-- a branch's inequality: the bound rises from `from` to `to` by at most the branch's cost, unless `from` states no
-- bound
abbrev pub StepHolds : ℕ → ℕ → ℕ → Type 0
StepHolds cost from to = from ≢ unbounded → to ≤ from + cost

-- the inequalities hold for both branches from state x, whose bound is `from`, to the states in the row `to`, with the
-- step's table of costs
abbrev pub BothHold : List ℕ → ℕ → List ℕ → ℕ → Type 0
BothHold costs from to x =
    StepHolds (shared_cost costs x false) from (slice_index to (shift x false))
    × StepHolds (shared_cost costs x true) from (slice_index to (shift x true))

-- the inequalities hold for all branches of one step, between the rows `from` and `to`
abbrev pub RowHolds : List ℕ → List ℕ → List ℕ → Type 0
RowHolds costs from to = (x : ℕ) → x < 64 → BothHold costs (slice_index from x) to x
