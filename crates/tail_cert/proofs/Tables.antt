-- A table whose steps hold up to some step.
use Rattle.std.proofs.Common.{◌≡◌, ℕ, zero, suc, ◌+◌, ◌<◌, ◌≤◌, ◌↔◌, Bool, true, false, List, [], get_or, ℤ, refl, sym, subst, ◌∙◌, add-one, below_more}
use Rattle.tailbite.specs.Costs.{HaveCosts, shared_cost}
use Rattle.tailbite.specs.Machine.{shift, step_cost}
use Rattle.tail_cert.specs.Certificate.{StepsHold, bound}
use Rattle.tail_cert.specs.Steps.{BothHold, RowHolds, StepHolds}

-- the row from which step n starts
pub from_row : List ℕ → List (List ℕ) → ℕ → List ℕ
from_row first table zero = first
from_row first table (suc n) = get_or table n []

-- all steps before n hold, with costs from tables
abbrev pub HoldsTo : List (List ℕ) → List ℕ → List (List ℕ) → ℕ → Type 0
HoldsTo costs first table n = (i : ℕ) → i < n → RowHolds (get_or costs i []) (from_row first table i) (get_or table i [])

of_both : (costs : List ℕ) (m : ℕ) (to : List ℕ) (x : ℕ) (b : Bool) → BothHold costs m to x → StepHolds (shared_cost costs x b) m (get_or to (shift x b) 0)
of_both costs m to x true h = h.1
of_both costs m to x false h = h.0

-- the bounds in the row from which a step starts
bound_is : (first : List ℕ) (table : List (List ℕ)) (i x : ℕ) → x < 64 → get_or (from_row first table i) x 0 ≡ bound (λ x. get_or first x 0) table i x
unfolding from_row
bound_is first table zero x below = refl
bound_is first table (suc i) x below = refl

-- all steps hold for the values exactly if they hold for the tables of costs
pub steps_by_table : (values : List (List ℤ)) (costs : List (List ℕ)) (first : List ℕ) (table : List (List ℕ)) → HaveCosts values costs 40 →
    HoldsTo costs first table 40 ↔ StepsHold values (λ x. get_or first x 0) table
steps_by_table values costs first table have = (to, back)
  where
    start : ℕ → ℕ
    start x = get_or first x 0

    to : HoldsTo costs first table 40 → StepsHold values start table
    to h i x b inside below some =
        let cost = (have.place i inside).cost x b below in
        let from = bound_is first table i x below in
        let step = of_both (get_or costs i []) (get_or (from_row first table i) x 0) (get_or table i []) x b (h i inside x below) in
        rw (← cost, ← from) (step (rw from some))

    one : StepsHold values start table → (i x : ℕ) (b : Bool) → i < 40 → x < 64 →
        StepHolds (shared_cost (get_or costs i []) x b) (get_or (from_row first table i) x 0) (get_or (get_or table i []) (shift x b) 0)
    one h i x b inside below some =
        let cost = (have.place i inside).cost x b below in
        let from = bound_is first table i x below in
        rw (cost, from) (h i x b inside below (rw (← from) some))

    back : StepsHold values start table → HoldsTo costs first table 40
    back h i inside x below = (one h i x false inside below, one h i x true inside below)

-- before the first step, only the bounds of the 64 states are read
pub steps_from : (values : List (List ℤ)) (f g : ℕ → ℕ) (table : List (List ℕ)) → ((x : ℕ) → x < 64 → f x ≡ g x) →
    StepsHold values f table → StepsHold values g table
steps_from values f g table same h zero x b inside below some =
    subst (λ m. bound g table 1 (shift x b) ≤ m + step_cost values 0 x b) (same x below) (h zero x b inside below (λ e. some (sym (same x below) ∙ e)))
steps_from values f g table same h (suc i) x b inside below some = h (suc i) x b inside below some

-- one more step
pub holds_more : (costs : List (List ℕ)) (first : List ℕ) (table : List (List ℕ)) (from : List ℕ) (n : ℕ) → from ≡ from_row first table n →
    RowHolds (get_or costs n []) from (get_or table n []) → HoldsTo costs first table n → HoldsTo costs first table (n + 1)
holds_more costs first table from n same row known = below_more _ _ known (rw (← same) row)

pub row_first : (first : List ℕ) (table : List (List ℕ)) → first ≡ from_row first table 0
unfolding from_row
row_first first table = refl

pub row_next : (first : List ℕ) (table : List (List ℕ)) (n : ℕ) → get_or table n [] ≡ from_row first table (n + 1)
unfolding from_row
row_next first table n = rw (add-one n) refl
