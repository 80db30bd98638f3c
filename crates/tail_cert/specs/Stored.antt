-- A certificate in memory (own): a 64-bit set of the start states that have their own tables, in which state s has
-- weight 2 ^ s, and a list of tables by state that reaches at least to the last state in the set.
use Rattle.std.specs.Prelude.{◌≡◌, ℕ, ◌-◌, ◌^◌, ◌<◌, ◌≤◌, All, Bool, true, false, cond, List, [], Option, Some, None, length, slice_index_or, ℤ}
use Rattle.finite.specs.Lists.{values_below}
use Rattle.tail_cert.specs.Certificate.{Counted, IsTable, IsTriple}

-- whether `set` contains state s
abbrev pub has_table : List Bool → ℕ → Bool
has_table set s = slice_index_or set (63 - s) false

-- the table of state s if `set` contains s, and otherwise `None`
abbrev pub shown_at : List Bool → List (List (List ℕ)) → ℕ → Option (List (List ℕ))
shown_at set tables s = cond (has_table set s) (Some (slice_index_or tables s [])) None

-- for each start state, its own table or `None`
unfoldable pub shown : List Bool → List (List (List ℕ)) → List (Option (List (List ℕ)))
shown set tables = values_below 64 (shown_at set tables)

-- `tables` reaches to each state in `set`
abbrev pub HaveTables : List Bool → List (List (List ℕ)) → Type 0
HaveTables set tables = (s : ℕ) → s < 64 → has_table set s ≡ true → s < length tables

-- `tables` has at most 64 tables, and reaches to each state in `set`
pub record AreStored (set : List Bool) (tables : List (List (List ℕ))) : Type 0 where
  pub each : All IsTable tables
  pub most : length tables ≤ 64
  pub room : HaveTables set tables

-- the invariant of a certificate in memory: lengths and ranges of its parts
pub record IsStored (values : List (List ℤ)) (word : List Bool) (cost : ℕ) (general : List (List ℕ))
    (set : List Bool) (tables : List (List (List ℕ))) : Type 0 where
  pub places : Counted 40 IsTriple values
  pub bits : length word ≡ 40
  pub fits : cost < 2 ^ 32
  pub general_is : IsTable general
  pub states : length set ≡ 64
  pub tables_are : AreStored set tables
