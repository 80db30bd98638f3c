-- Every cancellation has an answer.
use Rattle.std.proofs.Common.{◌≡◌, ℕ, zero, suc, ◌+◌, ◌⊎◌, inl, inr, arith, refl, subst, Option, Some, None, List}
use Rattle.std.proofs.lemmas.Bool.{cases_lt}
use Rattle.cs_num.specs.declared.Cpx.{Cpx}
use Rattle.cs_num.specs.declared.Sample.{Sample}
use Rattle.cs_num.specs.Complex.{minus, square}
use Rattle.cs_num.specs.Gain.{IsGain}
use Rattle.cell_plan.specs.declared.cell.CellPlan.{CellPlan}
use Rattle.cancel.specs.declared.choosing.GainChoice.{GainChoice}
use Rattle.cancel.specs.declared.subtracted.Subtracted.{Subtracted}
use Rattle.cancel.specs.Gain.{IsCandidate}
use Rattle.cancel.specs.Laws.{IsSomeSubtraction}
use Rattle.cancel.specs.Residue.{estimate_at, greatest_left, residue_of, power_of, IsSubtraction}
use Rattle.cancel.specs.Steps.{around, better_choice, choice_of, IsFoundBefore, IsChosen}
use Rattle.cancel.proofs.Found.{none_before, passed, taken, best_is_found}

-- ---- a candidate

-- a number is a candidate or not
candidate_or_not : (middle gain : Cpx) → IsCandidate middle gain ⊎ (IsCandidate middle gain → ⊥)
candidate_or_not middle gain = elim (cases_lt (square gain) 1) [
  | inl nothing ↦ inr (λ is. let least = is.range.least in absurd (omega (arith, nothing, least)))
  | inr least ↦ elim (cases_lt 784 (square gain)) [
    | inl large ↦ inr (λ is. let most = is.range.most in absurd (omega (arith, large, most)))
    | inr most ↦ elim (cases_lt 4 (square (minus gain middle))) [
      | inl far ↦ inr (λ is. let near = is.near in absurd (omega (arith, far, near)))
      | inr near ↦ inl (record { range = record { least = least; most = most }; near = near })
    ]
  ]
]

-- ---- the best candidate

module _ (greatest : Cpx → ℕ) (middle : Cpx) where
  found_before : (n : ℕ) → (found : Option GainChoice) × IsFoundBefore greatest middle None n found
  found_before zero = (None, none_before greatest middle None)
  found_before (suc n) = more (found_before n) (candidate_or_not middle (around middle n))
    where
      next : n + 1 ≡ suc n
      next = omega arith

      at_next : (found : Option GainChoice) → IsFoundBefore greatest middle None (n + 1) found → (found : Option GainChoice) × IsFoundBefore greatest middle None (suc n) found
      at_next found is = (found, subst (λ k. IsFoundBefore greatest middle None k found) next is)

      more : ((found : Option GainChoice) × IsFoundBefore greatest middle None n found) → IsCandidate middle (around middle n) ⊎ (IsCandidate middle (around middle n) → ⊥)
          → (found : Option GainChoice) × IsFoundBefore greatest middle None (suc n) found
      more (found, kept) (inl is) = at_next (better_choice None found (choice_of greatest (around middle n))) (taken greatest middle None n found is kept)
      more (found, kept) (inr fails) = at_next found (passed greatest middle None n found fails kept)

  some_choice : (found : Option GainChoice) × IsChosen greatest middle found
  some_choice = let all = found_before 25 in (all.0, best_is_found greatest middle None all.0 tt all.1)

-- ---- the answer

taken_with : List Sample → CellPlan → ℕ → ℕ → (gain : Cpx) → IsGain gain → Subtracted
taken_with recording plan start number gain range = record {
  gain = (gain.re, gain.im);
  gain_range = range;
  greatest = greatest_left recording plan start number gain;
  before = power_of recording;
  after = power_of (residue_of recording plan start number gain);
  residue = residue_of recording plan start number gain;
}

pub some_subtraction : IsSomeSubtraction
unfolding taken_with
some_subtraction recording plan start number = by_choice (some_choice (greatest_left recording plan start number) (estimate_at recording plan start))
  where
    by_choice : ((found : Option GainChoice) × IsChosen (greatest_left recording plan start number) (estimate_at recording plan start) found)
        → (answer : Option Subtracted) × IsSubtraction recording plan start number answer
    by_choice (None, none) = (None, none)
    by_choice (Some choice, is) = (
      Some (taken_with recording plan start number choice.gain is.0.candidate.range),
      record { gain = is.0; greatest = refl; residue = refl; before = refl; after = refl },
    )
