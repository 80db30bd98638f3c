-- Rounds on a clean recording.
use Rattle.std.proofs.Common.{◌≡◌, ◌∙◌, ℕ, zero, suc, ◌<◌, ◌⊎◌, inl, inr, arith, refl, sym, ap, subst, Bool, List, [], ◌∷◌, ◌++◌, length, get_or, Option, Some, None}
use Rattle.std.specs.List.{Contains}
use Rattle.cs_num.specs.declared.Cpx.{Cpx}
use Rattle.cs_num.specs.declared.Sample.{Sample}
use Rattle.lte_types.specs.declared.entry.Entry.{Entry}
use Rattle.lte_types.specs.Timing.{start_of, number_at_start}
use Rattle.sample_file.specs.Recording.{IsRecording}
use Rattle.cell_grid.specs.Ports.{only_port}
use Rattle.cell_plan.specs.declared.cell.CellPlan.{CellPlan}
use Rattle.cell_plan.specs.Plan.{IsSendable}
use Rattle.cell_grid.specs.Grid.{element}
use Rattle.cell_grid.specs.Grid.{Elements}
use Rattle.clean_air.specs.Clean.{IsListOfCells}
use Rattle.clean_air.specs.Load.{IsLoaded, SentElementsCarry}
use Rattle.clean_air.proofs.Carrying.{loaded_of}
use Rattle.clean_air.specs.Planned.{IsPlanned, SentEntryHasPlan, IsOnePlan}
use Rattle.cancel.specs.declared.subtracted.Subtracted.{Subtracted}
use Rattle.cancel.specs.Residue.{IsSubtracted, IsSubtraction, IsLeftWithin}
use Rattle.cancel.specs.Laws.{IsSomeSubtraction, AnswerTakesLoadedOff, AnswerTakesCleanOff}
use Rattle.successive_cancel.specs.declared.round.Round.{Round}
use Rattle.successive_cancel.specs.Rounds.{IsTakenOff, NoneIsTakenOff, IsRound, AreRounds}
use Rattle.successive_cancel.specs.Clean.{IsOfCell, TakesCell, IsTakenFirst, CleanCellIsTakenFirst, LoadedCellIsTakenFirst, CleanCellIsTakenNext}
use Rattle.successive_cancel.proofs.Front.{at_front, behind, heads, tails}

-- ---- the entry that a round cancels

-- the first entry that can be cancelled is this one or precedes it
stands : (recording : List Sample) (front : List Entry) (a : Entry) (rest before : List Entry) (entry : Entry) (after : List Entry) (taken : Subtracted) →
    front ++ a ∷ rest ≡ before ++ entry ∷ after → NoneIsTakenOff recording front → IsTakenOff recording entry taken → (a ≡ entry) ⊎ Contains before a
stands recording [] a rest [] entry after taken e none is = inl (heads a entry rest after e)
stands recording [] a rest (y ∷ before) entry after taken e none is =
    inr (subst (λ (x : Entry). Contains (y ∷ before) x) (sym (heads a y rest (before ++ entry ∷ after) e)) (at_front y before))
stands recording (x ∷ front) a rest [] entry after taken e none is =
    absurd (none entry taken (subst (λ (y : Entry). Contains (x ∷ front) y) (heads x entry (front ++ a ∷ rest) after e) (at_front x front)) is)
stands recording (x ∷ front) a rest (y ∷ before) entry after taken e none is =
    elim (stands recording front a rest before entry after taken (tails x y (front ++ a ∷ rest) (before ++ entry ∷ after) e)
    (λ other left inside. none other left (behind x other front inside)) is) [
      | inl same ↦ inl same
      | inr inside ↦ inr (behind y a before inside)
    ]

-- the entries before a listed entry, and the entries after it
record IsParted (list : List Entry) (entry : Entry) : Type 0 where
  before : List Entry
  after : List Entry
  split : list ≡ before ++ entry ∷ after

parted : (list : List Entry) (entry : Entry) → Contains list entry → IsParted list entry
parted list entry inside = at list inside.0 inside.1 inside.2
  where
    more : (x : Entry) (xs : List Entry) → IsParted xs entry → IsParted (x ∷ xs) entry
    more x xs p = record { before = x ∷ p.before; after = p.after; split = ap (λ (ys : List Entry). x ∷ ys) p.split }

    at : (xs : List Entry) (i : ℕ) → i < length xs → get_or xs i entry ≡ entry → IsParted xs entry
    at [] i low e = absurd (omega (arith, low))
    at (x ∷ xs) zero low e = record { before = []; after = xs; split = ap (λ (y : Entry). y ∷ xs) e }
    at (x ∷ xs) (suc i) low e = more x xs (at xs i (omega (arith, low)) e)

-- ---- rounds on a clean recording

same_plan : (a b : CellPlan) → ◌≡◌ {A = Option CellPlan} (Some a) (Some b) → a ≡ b
same_plan a b e = cc

-- the laws for the plan and for the answer
module _ (one_plan : IsOnePlan) (has_plan : SentEntryHasPlan) (some_answer : IsSomeSubtraction) where
  -- a loaded recording, with a bound on the residual
  module _ (recording : List Sample) (plan : CellPlan) (grid : Elements) (sfn offset : ℕ) (gain : Cpx) (eps most : ℕ) (long : IsRecording recording) (sendable : IsSendable plan)
      (loaded : IsLoaded recording plan grid sfn offset gain eps)
      (leaves : (taken : Subtracted) → IsSubtracted recording plan (start_of offset) (number_at_start sfn offset) taken → IsLeftWithin most taken)
      (can : IsSubtraction recording plan (start_of offset) (number_at_start sfn offset) None → ⊥) where
    abbrev start : ℕ
    start = start_of offset

    abbrev number : ℕ
    number = number_at_start sfn offset

    planned : (list : List Entry) (entry : Entry) → IsListOfCells recording list → Contains list entry → IsOfCell plan start number entry → IsPlanned recording entry plan
    planned list entry is inside of =
        has_plan recording entry plan grid sfn offset gain eps long (record { list = list; explained = is.explained; inside = inside }) sendable loaded of.id of.start of.sfn

    -- the entry's cell can be cancelled
    record CanBeTaken (entry : Entry) : Type 0 where
      taken : Subtracted
      is : IsTakenOff recording entry taken

    can_be : (entry : Entry) → IsOfCell plan start number entry → IsPlanned recording entry plan → CanBeTaken entry
    can_be entry of is = by_answer (some_answer recording plan start number)
      where
        by_answer : ((answer : Option Subtracted) × IsSubtraction recording plan start number answer) → CanBeTaken entry
        by_answer (None, none) = absurd (can none)
        by_answer (Some taken, answer) = record {
          taken = taken;
          is = record {
            plan = plan;
            planned = is;
            subtracted =
                subst (λ s. IsSubtracted recording plan s entry.sfn taken) (sym of.start)
                (subst (λ n. IsSubtracted recording plan start n taken) (sym of.sfn) answer);
          };
        }

    -- a round that cancels the entry cancels the cell
    takes_cell : (entry : Entry) (round : Round) → IsOfCell plan start number entry → IsPlanned recording entry plan → round.id ≡ entry.id → IsTakenOff recording entry round.taken →
        TakesCell recording plan start number most round
    takes_cell entry round of is id taken =
        let same = same_plan taken.plan plan (one_plan recording entry (Some taken.plan) (Some plan) taken.planned is) in
        let subtracted =
        subst (λ s. IsSubtracted recording plan s number round.taken) of.start
        (subst (λ n. IsSubtracted recording plan entry.start n round.taken) of.sfn
        (subst (λ (p : CellPlan). IsSubtracted recording p entry.start entry.sfn round.taken) same taken.subtracted)) in
        record { id = id ∙ of.id; subtracted = subtracted; left = leaves round.taken subtracted }

    first_round : (fewer : ℕ) (list : List Entry) (rounds : List Round) (ended : Bool) → IsListOfCells recording list → AreRounds (suc fewer) recording list rounds ended →
        IsTakenFirst recording list rounds plan start number most
    first_round fewer list [] ended is are =
        let held = is.loaded plan (λ port. grid) sfn offset (gain ∷ []) eps sendable loaded in
        let of : IsOfCell plan start number held.entry = record { id = held.id; start = held.start; sfn = held.sfn } in
        let able = can_be held.entry of (planned list held.entry is held.inside of) in
        absurd (are.1 held.entry able.taken held.inside able.is)
    first_round fewer list (round ∷ rest) ended is are =
        let held = is.loaded plan (λ port. grid) sfn offset (gain ∷ []) eps sendable loaded in
        let of : IsOfCell plan start number held.entry = record { id = held.id; start = held.start; sfn = held.sfn } in
        let has = planned list held.entry is held.inside of in
        let able = can_be held.entry of has in
        let parts = parted list held.entry held.inside in
        let turn = are.0 in
        by held.entry of has able parts turn
        (stands recording turn.before turn.entry turn.after parts.before held.entry parts.after able.taken (sym turn.split ∙ parts.split) turn.passed able.is)
      where
        by : (entry : Entry) → IsOfCell plan start number entry → IsPlanned recording entry plan → CanBeTaken entry → (parts : IsParted list entry) (turn : IsRound recording list round) →
            (turn.entry ≡ entry) ⊎ Contains parts.before turn.entry → IsTakenFirst recording list (round ∷ rest) plan start number most
        by entry of has able parts turn found = record {
          before = parts.before;
          entry = entry;
          after = parts.after;
          split = parts.split;
          of_cell = of;
          round = round;
          rest = rest;
          follows = refl;
          takes = elim found [
            | inl same ↦ inl (its same)
            | inr inside ↦ inr (record { entry = turn.entry; inside = inside; id = turn.id; taken = turn.taken })
          ];
          first = λ none. elim found [
            | inl same ↦ its same
            | inr inside ↦ absurd (none turn.entry round.taken inside turn.taken)
          ];
        }
          where
            its : turn.entry ≡ entry → TakesCell recording plan start number most round
            its same =
                takes_cell entry round of has (turn.id ∙ ap (λ (e : Entry). e.id) same) (subst (λ (e : Entry). IsTakenOff recording e round.taken) same turn.taken)

  -- ---- the laws

  pub clean_next : AnswerTakesCleanOff → SentElementsCarry → CleanCellIsTakenNext
  clean_next leaves carry fewer recording list rounds ended plan sfn offset gain eps long is are sendable clean =
      first_round recording plan (element plan) sfn offset gain eps eps long sendable
      (loaded_of recording plan (element plan) sfn offset gain eps clean.number (carry None only_port plan) clean.samples)
      (λ taken subtracted. leaves recording plan (start_of offset) (number_at_start sfn offset) (Some taken) long subtracted sfn offset gain eps clean refl refl)
      (λ none. leaves recording plan (start_of offset) (number_at_start sfn offset) None long none sfn offset gain eps clean refl refl)
      fewer list rounds ended is are

  pub clean_first : AnswerTakesCleanOff → SentElementsCarry → CleanCellIsTakenFirst
  clean_first leaves carry recording rounds plan sfn offset gain eps long is sendable clean =
      clean_next leaves carry 3 recording rounds.first rounds.taken.items rounds.ended plan sfn offset gain eps long is.listed is.follow sendable clean

  pub loaded_first : AnswerTakesLoadedOff → LoadedCellIsTakenFirst
  loaded_first leaves recording rounds plan grid sfn offset gain eps most long is sendable loaded few near =
      first_round recording plan grid sfn offset gain eps most long sendable loaded
      (λ taken subtracted. leaves recording plan (start_of offset) (number_at_start sfn offset) (Some taken) long subtracted grid sfn offset gain eps most loaded refl refl few near)
      (λ none. leaves recording plan (start_of offset) (number_at_start sfn offset) None long none grid sfn offset gain eps most loaded refl refl few near)
      3 rounds.first rounds.taken.items rounds.ended is.listed is.follow
