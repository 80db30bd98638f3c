-- Minimum costs make tables that hold.
use Rattle.std.proofs.Common.{◌≡◌, ◌≢◌, ℕ, zero, suc, ◌^◌, ◌<◌, ◌≤◌, List, [], Some, length, get_or, ℤ, refl, sym, ◌∙◌, inl, inr, arith}
use Rattle.std.proofs.lemmas.Bool.Decides.{eqb_tells}
use Rattle.trellis.specs.Paths.{end_of}
use Rattle.trellis.proofs.Rounds.{ends_in_same, ends_in_other}
use Rattle.trellis.specs.Least.{IsLeastTo, ends_in}
use Rattle.trellis.proofs.Forward.{least_to_none, least_to-le}
use Rattle.tailbite.specs.Machine.{shift, step_cost}
use Rattle.tailbite.proofs.Windows.{same_end, shift_below}
use Rattle.tailbite.proofs.Branches.{word_cost-path}
use Rattle.tail_cert.specs.Certificate.{IsLowerBound, StartHolds, StepsHold, bound, from_state, unbounded}
use Rattle.tail_cert.specs.Forward.{HasLeastRows, IsTableFrom}

-- the start row of state s: 0 there, and elsewhere more than the cost of every word
pub record IsStartRow (s : ℕ) (start : List ℕ) : Type 0 where
  pub row : (x : ℕ) → x < 64 → get_or start x 0 ≡ ends_in (2 ^ 30) s x

-- the steps hold if each bound before the first step bounds nothing or is the start's cost
pub steps_hold : (values : List (List ℤ)) (first : ℕ → ℕ) (start : List ℕ) (table : List (List ℕ)) →
    ((x : ℕ) → x < 64 → first x ≢ unbounded → get_or start x 0 ≡ first x) → HasLeastRows values start table 40 → StepsHold values first table
steps_hold values first start table same rows zero x b inside below some =
    let h = least_to-le shift (step_cost values) (λ y. get_or start y 0) 64 0 x b _ _ (least_to_none shift (step_cost values) (λ y. get_or start y 0) 64 x below)
    ((rows.row 0 inside).least.least (shift x b) (shift_below x b below)) in
    let e = same x below some in
    omega (arith, h, e)
steps_hold values first start table same rows (suc i) x b inside below some =
    least_to-le shift (step_cost values) (λ y. get_or start y 0) 64 (suc i) x b _ _ ((rows.row i (omega arith)).least.least x below)
    ((rows.row (suc i) inside).least.least (shift x b) (shift_below x b below))

-- the minimum costs from a state bound each word that starts and ends there
accepted : (values : List (List ℤ)) (cost s : ℕ) (general : List (List ℕ)) (start : List ℕ) (table : List (List ℕ)) → s < 64 → length values ≡ 40 → IsStartRow s start →
    IsLowerBound values cost → cost ≤ 2 ^ 30 → HasLeastRows values start table 40 → StartHolds values cost general s (Some table)
accepted values cost s general start table below places is_start lower small rows = (steps_hold values (from_state s) start table first rows, ends)
  where
    first : (x : ℕ) → x < 64 → from_state s x ≢ unbounded → get_or start x 0 ≡ from_state s x
    first x here some = elim (eqb_tells x s) [
      | inl (t, same) ↦ let is_zero = is_start.row x here ∙ ends_in_same (2 ^ 30) s x same in rw t is_zero
      | inr (f, other) ↦ absurd (some (rw f refl))
    ]

    ends : cost ≤ bound (from_state s) table 40 s
    ends =
        let (y, bs, below_y, size, there, total) = ((rows.row 39 (omega arith)).least.least s below).reached in
        elim (eqb_tells y s) [
          | inl (t, same) ↦
              let zero_is : get_or start y 0 ≡ 0 = is_start.row y below_y ∙ ends_in_same (2 ^ 30) s y same in
              let back : end_of shift 0 bs ≡ y = same_end 0 y bs (omega arith) below_y (omega (arith, size)) ∙ there ∙ sym same in
              let word = rw back at (word_cost-path values bs (omega (arith, size, places)) (omega (arith, size))) in
              let h = lower bs size in
              omega (arith, total, zero_is, word, h)
          | inr (f, other) ↦
              let far_is : get_or start y 0 ≡ 2 ^ 30 = is_start.row y below_y ∙ ends_in_other (2 ^ 30) s y f in
              omega (arith, total, far_is, small)
        ]

-- equal start costs give equal minimum costs
same_starts : (values : List (List ℤ)) (f g : ℕ → ℕ) (k x m : ℕ) → ((y : ℕ) → y < 64 → f y ≡ g y) →
    IsLeastTo shift (step_cost values) f 64 k x m → IsLeastTo shift (step_cost values) g 64 k x m
same_starts values f g k x m same p =
    let (y, bs, below, size, there, cost) = p.reached in
    let e = same y below in
    record {
      reached = (y, bs, below, size, there, omega (arith, cost, e));
      least = λ z ds below' size' there'. let d = same z below' in let h = p.least z ds below' size' there' in omega (arith, h, d);
    }

-- the table that is written for a state
pub table_from : (values : List (List ℤ)) (s : ℕ) (start : List ℕ) (table : List (List ℕ)) → s < 64 → length values ≡ 40 → IsStartRow s start →
    HasLeastRows values start table 40 → IsTableFrom values s table
table_from values s start table below places is_start rows = record {
  least = λ i x inside here. same_starts values (λ y. get_or start y 0) (ends_in (2 ^ 30) s) (suc i) x _ (λ y l. is_start.row y l)
      ((rows.row i inside).least.least x here);
  shows = λ cost lower small. accepted values cost s [] start table below places is_start lower small rows;
}
