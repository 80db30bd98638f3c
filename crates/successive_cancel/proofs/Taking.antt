-- Cancellation of one cell.
use Rattle.std.proofs.Common.{◌≡◌, ◌∙◌, ℕ, suc, ◌+◌, ◌<◌, inl, inr, arith, sym, ap, subst, List, [], ◌∷◌, ◌++◌, length, take, drop, get_or, Option, Some, None, Result, Ok, Err}
use Rattle.std.specs.Prelude.{IfOk}
use Rattle.std.specs.declared.alloc.AllocError.{AllocError}
use Rattle.std.specs.List.{Contains}
use Rattle.std.proofs.lemmas.List.{take_more}
use Rattle.std.proofs.lemmas.List.Elements.{Contains-append_cases}
use Rattle.std.proofs.Math.Seq.{split_at}
use Rattle.finite.proofs.Lists.{only_one}
use Rattle.cs_num.specs.declared.Sample.{Sample}
use Rattle.lte_types.specs.declared.entry.Entry.{Entry}
use Rattle.cell_plan.specs.declared.cell.CellPlan.{CellPlan}
use Rattle.cell_plan.specs.Pair.{gain_of}
use Rattle.clean_air.specs.Planned.{IsPlanned, IsPlanOf}
use Rattle.clean_air.proofs.Plans.{one_planned}
use Rattle.cancel.specs.declared.subtracted.Subtracted.{Subtracted}
use Rattle.cancel.specs.Residue.{IsSubtracted, IsSubtraction}
use Rattle.cancel.proofs.Once.{one_subtracted}
use Rattle.clean_air.specs.Clean.{IsListOfCells}
use Rattle.successive_cancel.specs.declared.round.Round.{Round}
use Rattle.successive_cancel.specs.Rounds.{IsTakenOff, NoneIsTakenOff, IsRound}
use Rattle.successive_cancel.specs.Steps.{IsTakenIf}

-- ---- an entry

-- an entry with a plan is cancelled as the plan's cell is
pub taken_if : (recording : List Sample) (entry : Entry) (plan : CellPlan) (answer : Option Subtracted) → IsPlanned recording entry plan →
    IsSubtraction recording plan entry.start entry.sfn answer → IsTakenIf recording entry answer
taken_if recording entry plan (Some taken) planned is = record { plan = plan; planned = planned; subtracted = is }
taken_if recording entry plan None planned is = λ taken other.
    let same = one_planned recording entry other.plan plan other.planned planned in
    let subtracted = subst (λ (p : CellPlan). IsSubtracted recording p entry.start entry.sfn taken) same other.subtracted in
    is (gain_of taken.gain) subtracted.gain.candidate

-- an entry without a plan cannot be cancelled
pub not_taken : (recording : List Sample) (entry : Entry) → IsPlanOf recording entry None → (taken : Subtracted) → IsTakenOff recording entry taken → ⊥
not_taken recording entry none taken is = none is.plan is.planned

pub one_taken : (recording : List Sample) (entry : Entry) (a b : Subtracted) → IsTakenOff recording entry a → IsTakenOff recording entry b → a ≡ b
one_taken recording entry a b p q =
    let same = one_planned recording entry p.plan q.plan p.planned q.planned in
    one_subtracted recording q.plan entry.start entry.sfn a b (subst (λ (plan : CellPlan). IsSubtracted recording plan entry.start entry.sfn a) same p.subtracted) q.subtracted

-- ---- a list

pub none_in_none : (recording : List Sample) → NoneIsTakenOff recording []
none_in_none recording entry taken inside is = let low = inside.1 in absurd (omega (arith, low))

-- if neither an entry nor any before it can be cancelled, none up to it can
pub none_with : (recording : List Sample) (before : List Entry) (entry : Entry) → NoneIsTakenOff recording before →
    ((taken : Subtracted) → IsTakenOff recording entry taken → ⊥) → NoneIsTakenOff recording (before ++ entry ∷ [])
none_with recording before entry none not other taken inside is = elim (Contains-append_cases before (entry ∷ []) other inside) [
  | inl earlier ↦ none other taken earlier is
  | inr here ↦ not taken (subst (λ (e : Entry). IsTakenOff recording e taken) (sym (only_one entry other here)) is)
]

pub answer_if : (recording : List Sample) (entry : Entry) (plan : CellPlan) (answer : Result (Option Subtracted) AllocError) → IsPlanned recording entry plan →
    IfOk answer (IsSubtraction recording plan entry.start entry.sfn) → IfOk answer (IsTakenIf recording entry)
answer_if recording entry plan (Ok found) planned is = taken_if recording entry plan found planned is
answer_if recording entry plan (Err wanting) planned is = tt

-- ---- an entry's index in a list

-- if an entry can be cancelled and none before it can, it is the round's entry
pub round_at : (recording : List Sample) (list : List Entry) (i : ℕ) (entry d : Entry) (round : Round) (found : Option Subtracted) → entry ≡ get_or list i d → i < length list →
    NoneIsTakenOff recording (take i list) → IsTakenIf recording entry found → found ≡ Some round.taken → round.id ≡ entry.id → IsListOfCells round.taken.residue round.list → IsRound recording list round
round_at recording list i entry d round found is inside none taken same id listed = record {
  before = take i list;
  entry = entry;
  after = drop (suc i) list;
  split = split_at list i d inside ∙ ap (λ (e : Entry). take i list ++ e ∷ drop (suc i) list) (sym is);
  passed = none;
  taken = subst (IsTakenIf recording entry) same taken;
  id = id;
  listed = listed;
}

-- if an entry cannot be cancelled and none before it can, none up to it can
pub none_more : (recording : List Sample) (list : List Entry) (i : ℕ) (entry d : Entry) (found : Option Subtracted) → entry ≡ get_or list i d → i < length list →
    NoneIsTakenOff recording (take i list) → IsTakenIf recording entry found → found ≡ None → NoneIsTakenOff recording (take (i + 1) list)
none_more recording list i entry d found is inside none taken same =
    let more : take (i + 1) list ≡ take i list ++ entry ∷ [] =
    take_more list i d inside ∙ ap (λ (e : Entry). take i list ++ e ∷ []) (sym is) in
    subst (NoneIsTakenOff recording) (sym more) (none_with recording (take i list) entry none (subst (IsTakenIf recording entry) same taken))
