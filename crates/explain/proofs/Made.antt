-- The entries for the MIBs in frames, phase after phase.
use Rattle.std.proofs.Common.{◌≡◌, ℕ, ◌+◌, ◌<◌, inl, inr, true, false, nat_lt, List, ◌++◌, Option, arith, refl, ap, sym, subst, ◌∙◌}
use Rattle.std.specs.Prelude.{Result, if◌then◌else◌}
use Rattle.std.proofs.lemmas.Bool.{cases_lt}
use Rattle.std.proofs.lemmas.Bool.Decides.{nat_tests}
use Rattle.finite.proofs.Lists.{joined_below_none, joined_below_more, joined_below_same}
use Rattle.lte_types.specs.CellPlace.{Place}
use Rattle.lte_types.specs.Frames.{frames_from}
use Rattle.lte_types.specs.declared.entry.Entry.{Entry}
use Rattle.lte_types.specs.declared.sib1.Sib1.{Sib1}
use Rattle.lte_types.specs.declared.sib1_reason.Sib1Reason.{Sib1Reason}
use Rattle.pbch.specs.declared.master.Master.{Master}
use Rattle.pbch.specs.Master.{master_at}
use Rattle.explain.specs.Decoded.{Informing}
use Rattle.explain.specs.Entries.{Adds}
use Rattle.explain.specs.Masters.{entry_at, entries_of, IsSystemAt, AddsPhase, AddsPhases}
use Rattle.explain.proofs.Kept.{adds_none, adds_more}

-- the system information for the first phases, and for one more
with_system : (ℕ → Result Sib1 Sib1Reason) → ℕ → Result Sib1 Sib1Reason → ℕ → Result Sib1 Sib1Reason
with_system systems count sib1 phase = if nat_lt phase count then systems phase else sib1

at_before : (systems : ℕ → Result Sib1 Sib1Reason) (count : ℕ) (sib1 : Result Sib1 Sib1Reason) (phase : ℕ) → phase < count → with_system systems count sib1 phase ≡ systems phase
unfolding with_system
at_before systems count sib1 phase l = let e : nat_lt phase count ≡ true = grind (arith, nat_tests) in rw e refl

at_last : (systems : ℕ → Result Sib1 Sib1Reason) (count : ℕ) (sib1 : Result Sib1 Sib1Reason) → with_system systems count sib1 count ≡ sib1
unfolding with_system
at_last systems count sib1 = let e : nat_lt count count ≡ false = grind (arith, nat_tests) in rw e refl

module _ (IsSystem : Informing) (place : Place) (count frame : ℕ) (masters : List (Option Master)) where
  pub no_phases : (list : List Entry) (systems : ℕ → Result Sib1 Sib1Reason) → AddsPhases IsSystem place count frame masters 0 list list
  no_phases list systems = record {
    systems = systems;
    are_systems = λ phase l. absurd (omega (arith, l));
    adds = subst (λ entries. Adds entries list list) (sym (joined_below_none (λ phase. entry_at place (frames_from count frame phase) (master_at masters phase) (systems phase)))) (adds_none list);
  }

  pub one_more_phase : (phases : ℕ) (first old new : List Entry) → AddsPhases IsSystem place count frame masters phases first old →
      AddsPhase IsSystem place (frames_from count frame phases) (master_at masters phases) old new → AddsPhases IsSystem place count frame masters (phases + 1) first new
  one_more_phase phases first old new before one = record {
    systems = systems;
    are_systems = are_systems;
    adds = subst (λ entries. Adds entries first new) (sym whole)
        (adds_more (entries_of place count frame masters before.systems phases) (entry_at place (frames_from count frame phases) (master_at masters phases) one.sib1) first old new before.adds one.adds);
  }
    where
      systems : ℕ → Result Sib1 Sib1Reason
      systems = with_system before.systems phases one.sib1

      are_systems : (phase : ℕ) → phase < phases + 1 → IsSystemAt IsSystem place (frames_from count frame phase) (master_at masters phase) (systems phase)
      are_systems phase l = elim (cases_lt phase phases) [
        | inl less ↦ subst (IsSystemAt IsSystem place (frames_from count frame phase) (master_at masters phase)) (sym (at_before before.systems phases one.sib1 phase less)) (before.are_systems phase less)
        | inr not_less ↦ let same : phases ≡ phase = omega (arith, l, not_less) in
            subst (λ n. IsSystemAt IsSystem place (frames_from count frame n) (master_at masters n) (systems n)) same
            (subst (IsSystemAt IsSystem place (frames_from count frame phases) (master_at masters phases)) (sym (at_last before.systems phases one.sib1)) one.is_system)
      ]

      whole : entries_of place count frame masters systems (phases + 1)
          ≡ entries_of place count frame masters before.systems phases ++ entry_at place (frames_from count frame phases) (master_at masters phases) one.sib1
      whole =
          joined_below_more phases (λ phase. entry_at place (frames_from count frame phase) (master_at masters phase) (systems phase))
          ∙ ap (λ entries. entries ++ entry_at place (frames_from count frame phases) (master_at masters phases) (systems phases))
          (joined_below_same phases (λ phase. entry_at place (frames_from count frame phase) (master_at masters phase) (systems phase)) (λ phase. entry_at place (frames_from count frame phase) (master_at masters phase) (before.systems phase))
          (λ phase l. ap (entry_at place (frames_from count frame phase) (master_at masters phase)) (at_before before.systems phases one.sib1 phase l)))
          ∙ ap (λ sib1. entries_of place count frame masters before.systems phases ++ entry_at place (frames_from count frame phases) (master_at masters phases) sib1) (at_last before.systems phases one.sib1)
