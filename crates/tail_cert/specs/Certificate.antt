-- Certificates of minimum cost (own). A trellis state holds the last six bits, the newest with weight 32.
use Rattle.std.specs.Prelude.{◌≡◌, ◌≢◌, ℕ, zero, suc, ◌+◌, ◌-◌, ◌^◌, ◌<◌, ◌≤◌, All, Bool, false, cond, List, [], Option, Some, None, IfSome, is_some, length, nat_abs, nat_eq, replicate, slice_index, slice_index_or, ℤ, pos}
use Rattle.finite.specs.Sums.{total_below}
use Rattle.conv_code.specs.Cost.{word_cost}
use Rattle.tailbite.specs.Machine.{shift, step_cost}

-- the content of a certificate: three soft values for each position, an information word, its cost, a general table of
-- lower bounds for all start states, and for each start state its own table or none
pub record Held : Type 0 where
  pub values : List (List ℤ)
  pub word : List Bool
  pub cost : ℕ
  pub general : List (List ℕ)
  pub tables : List (Option (List (List ℕ)))

-- ---- acceptance

-- the table entry that states no bound
abbrev pub unbounded : ℕ
unbounded = 2 ^ 32 - 1

-- the bounds before the first step if a path may start in any state: 0 for each state x
abbrev pub from_any : ℕ → ℕ
from_any x = 0

-- the bounds before the first step if a path starts in state s: 0 for s, and no bound for any other state
abbrev pub from_state : ℕ → ℕ → ℕ
from_state s x = cond (nat_eq x s) 0 unbounded

-- The lower bound on the cost of i steps to state x. Step 0 has the bounds `first`, and `table` has a row for each step
-- from 1.
abbrev pub bound : (ℕ → ℕ) → List (List ℕ) → ℕ → ℕ → ℕ
bound first table zero x = first x
bound first table (suc i) x = slice_index (slice_index_or table i []) x

-- in each of 40 steps, the bound rises along each branch by at most the branch's cost, unless the branch starts from an
-- entry that states no bound
abbrev pub StepsHold : List (List ℤ) → (ℕ → ℕ) → List (List ℕ) → Type 0
StepsHold values first table = (i x : ℕ) (b : Bool) → i < 40 → x < 64 →
    bound first table i x ≢ unbounded →
    bound first table (suc i) (shift x b) ≤ bound first table i x + step_cost values i x b

-- start state s is accepted: `cost` is at most the bound for 40 steps to s, in the state's own table, whose steps must
-- hold, or in the general table if the state has none
abbrev pub StartHolds : List (List ℤ) → ℕ → List (List ℕ) → ℕ → Option (List (List ℕ)) → Type 0
StartHolds values cost general s None = cost ≤ bound from_any general 40 s
StartHolds values cost general s (Some table) =
    StepsHold values (from_state s) table × (cost ≤ bound (from_state s) table 40 s)

-- the certificate c is accepted: the stated cost is its word's cost, the general table's steps hold, and every start
-- state is accepted
pub record IsAccepted (c : Held) : Type 0 where
  pub stated : c.cost ≡ word_cost c.values c.word
  pub general : StepsHold c.values from_any c.general
  pub starts : (s : ℕ) → s < 64 → StartHolds c.values c.cost c.general s (slice_index_or c.tables s None)

-- no 40-bit word costs less than `cost`
abbrev pub IsLowerBound : List (List ℤ) → ℕ → Type 0
IsLowerBound values cost = (other : List Bool) → length other ≡ 40 → cost ≤ word_cost values other

-- ---- sizes

-- `xs` has n elements, and each of them has the property P
pub record Counted {A : Type 0} (n : ℕ) (P : A → Type 0) (xs : List A) : Type 0 where
  pub count : length xs ≡ n
  pub all : All P xs

-- v has the three soft values of a position, each at most 2,032 in magnitude
abbrev pub IsTriple : List ℤ → Type 0
IsTriple v = Counted 3 (λ z. nat_abs z ≤ 2032) v

-- `row` has one 32-bit bound for each of the 64 states
abbrev pub IsRow : List ℕ → Type 0
IsRow row = Counted 64 (λ n. n < 2 ^ 32) row

-- `table` has a row of bounds for each of 40 steps
abbrev pub IsTable : List (List ℕ) → Type 0
IsTable table = Counted 40 IsRow table

-- a start state's own table, if it has one, has a row for each of the 40 steps
abbrev pub IsMaybeTable : Option (List (List ℕ)) → Type 0
IsMaybeTable maybe = IfSome maybe IsTable

-- the certificate's lists have the required lengths, and each number is within its range
pub record IsWhole (c : Held) : Type 0 where
  pub places : Counted 40 IsTriple c.values
  pub bits : length c.word ≡ 40
  pub fits : c.cost < 2 ^ 32
  pub general : IsTable c.general
  pub starts : Counted 64 IsMaybeTable c.tables

-- the number of start states that have their own tables
abbrev pub tables_there : List (Option (List (List ℕ))) → ℕ
tables_there tables = total_below 64 (λ s. cond (is_some (slice_index_or tables s None)) 1 0)

-- the certificate with zero values, word, cost and general table, and without tables for start states
abbrev pub of_zeros : Held
of_zeros = record {
  values = replicate 40 (replicate 3 (pos 0));
  word = replicate 40 false;
  cost = 0;
  general = replicate 40 (replicate 64 0);
  tables = replicate 64 None;
}
