-- The first item in a list that has a value. `Has` says which values an item has. (own)
use Rattle.std.specs.Prelude.{ℕ, ◌<◌, List, All, length}
use Rattle.std.specs.List.{AllWithin, HoldsAt}

-- an item has no value
abbrev pub HasNone : {A B : Type 0} → (A → B → Type 0) → A → Type 0
HasNone {A} {B} Has item = (value : B) → Has item value → ⊥

-- no item in a list has a value
abbrev pub HaveNone : {A B : Type 0} → (A → B → Type 0) → List A → Type 0
HaveNone Has items = All (HasNone Has) items

-- `value` is the value of an item in a list, and no earlier item has a value
pub record IsFirstOf {A B : Type 0} (Has : A → B → Type 0) (items : List A) (value : B) : Type 0 where
  pub at : ℕ
  pub inside : at < length items
  pub has : HoldsAt (λ item. Has item value) items at
  pub none : AllWithin (HasNone Has) items 0 at
