-- The minimum costs to each state, step by step, and their place in a certificate's tables (own).
use Rattle.std.specs.Prelude.{◌≡◌, ◌↔◌, ℕ, suc, ◌*◌, ◌^◌, ◌<◌, ◌≤◌, List, [], Some, None, IfSome, IsSome, length, slice_index, slice_index_or, ℤ}
use Rattle.trellis.specs.Least.{IsLeastTo, ends_in}
use Rattle.trellis.specs.Rows.{IsLeastRow}
use Rattle.tailbite.specs.Machine.{shift, step_cost}
use Rattle.tail_cert.specs.Certificate.{Held, IsLowerBound, StartHolds, bound, from_any}

-- `row` holds the minimum cost of k steps to each state, from the start costs in `start`. Start costs are at most 2 ^
-- 30, and step costs at most 3 * 2 ^ 20.
pub record IsStepRow (values : List (List ℤ)) (start : List ℕ) (k : ℕ) (row : List ℕ) : Type 0 where
  pub size : length row ≡ 64
  pub least : IsLeastRow shift (step_cost values) (λ y. slice_index start y) 64 (2 ^ 30) (3 * 2 ^ 20) k row

-- the first n rows of `table` hold the minimum costs to each state after steps 1 to n, from the start costs in `start`
pub record HasLeastRows (values : List (List ℤ)) (start : List ℕ) (table : List (List ℕ)) (n : ℕ) : Type 0 where
  pub row : (i : ℕ) → i < n → IsStepRow values start (suc i) (slice_index_or table i [])

-- start state s, with `table` as its own table, is accepted for every lower bound on word costs that is at most 2 ^ 30
abbrev pub ShowsBounds : List (List ℤ) → ℕ → List (List ℕ) → Type 0
ShowsBounds values s table =
    (cost : ℕ) → IsLowerBound values cost → cost ≤ 2 ^ 30 → StartHolds values cost [] s (Some table)

-- each bound in `table` is the minimum cost to its state after its step, if a start in state s costs 0 and a start in
-- any other state costs 2 ^ 30
abbrev pub HasLeastFrom : List (List ℤ) → ℕ → List (List ℕ) → Type 0
HasLeastFrom values s table =
    (i x : ℕ) → i < 40 → x < 64 →
    IsLeastTo shift (step_cost values) (ends_in (2 ^ 30) s) 64 (suc i) x (slice_index (slice_index_or table i []) x)

-- `table` is the table that is written for start state s: its bounds are minimum costs from s, and s is accepted with
-- it for every lower bound on word costs that is at most 2 ^ 30
pub record IsTableFrom (values : List (List ℤ)) (s : ℕ) (table : List (List ℕ)) : Type 0 where
  pub least : HasLeastFrom values s table
  pub shows : ShowsBounds values s table

-- The certificate c is filled as the program does. Each bound in the general table is the minimum cost to its state
-- after its step, from any start. A start state has its own table exactly if its bound in the general table is below
-- the cost; its own table holds the minimum costs from the state.
pub record IsFilled (c : Held) : Type 0 where
  pub least : (i x : ℕ) → i < 40 → x < 64 →
      IsLeastTo shift (step_cost c.values) from_any 64 (suc i) x (bound from_any c.general (suc i) x)
  pub needed : (s : ℕ) → s < 64 → IsSome (slice_index_or c.tables s None) ↔ (bound from_any c.general 40 s < c.cost)
  pub own : (s : ℕ) → s < 64 → IfSome (slice_index_or c.tables s None) (HasLeastFrom c.values s)
