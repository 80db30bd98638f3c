-- The plan with which a listed cell was sent. (own)
use Rattle.std.specs.Prelude.{◌≡◌, ℕ, List, Option, Some, None, Ok}
use Rattle.cs_num.specs.declared.Cpx.{Cpx}
use Rattle.cs_num.specs.declared.Sample.{Sample}
use Rattle.lte_types.specs.declared.bandwidth.Bandwidth.TheVariants.{N6}
use Rattle.lte_types.specs.declared.sib1.Sib1.{Sib1}
use Rattle.lte_types.specs.declared.entry.Entry.{Entry}
use Rattle.lte_types.specs.Timing.{start_of, number_at_start}
use Rattle.dci.specs.declared.grant.Grant.{Grant}
use Rattle.sample_file.specs.Recording.{IsRecording}
use Rattle.explain.specs.Entries.{IsInList}
use Rattle.explain.specs.Grant.{IsGrantOf}
use Rattle.cell_plan.specs.declared.cell.CellPlan.{CellPlan}
use Rattle.cell_plan.specs.Plan.{IsSendable, plan_refusal}
use Rattle.cell_grid.specs.Grid.{Elements}
use Rattle.clean_air.specs.Load.{IsLoaded}
use Rattle.clean_air.specs.Faithful.{IsFaithful}

-- the plan that combines the fields of `entry` with an indicator, a grant and a SIB1
abbrev pub plan_by : Entry → ℕ → Grant → Sib1 → CellPlan
plan_by entry indicator grant block = record {
  identity = entry.id;
  duration = entry.mib.duration;
  resource = entry.mib.resource;
  spare = entry.mib.spare;
  cfi = indicator;
  start = grant.start;
  blocks = grant.blocks;
  mcs = grant.mcs;
  column = grant.column;
  sib1 = block;
}

-- The cell of `entry` was sent with `plan`: the plan combines the entry's fields with the indicator and the grant by
-- which SIB1 was read. The entry has one antenna port and bandwidth n6, and the plan satisfies all conditions of a
-- plan.
pub record IsPlanned (recording : List Sample) (entry : Entry) (plan : CellPlan) : Type 0 where
  pub grant : Grant
  pub granted : IsGrantOf recording entry (Some (plan.cfi, grant))
  pub listed : entry.sib1 ≡ Ok plan.sib1
  pub ports : entry.ports ≡ 1
  pub bandwidth : entry.mib.bandwidth ≡ N6
  pub plan_is : plan ≡ plan_by entry plan.cfi grant plan.sib1
  pub accepted : plan_refusal plan ≡ None

-- the entry's plan, or `None` if it has none
abbrev pub IsPlanOf : List Sample → Entry → Option CellPlan → Type 0
IsPlanOf recording entry (Some plan) = IsPlanned recording entry plan
IsPlanOf recording entry None = (plan : CellPlan) → IsPlanned recording entry plan → ⊥

-- If the recording is faithful to a cell whose plan can be sent, whatever else the cell sends, and `entry` has the
-- cell's identity, start and frame number, then `answer` is the sent plan.
abbrev pub IsFaithfulPlan : List Sample → Entry → Option CellPlan → Type 0
IsFaithfulPlan recording entry answer =
    (plan : CellPlan) (grid : Elements) (sfn offset : ℕ) (gain : Cpx) → IsSendable plan →
    IsFaithful recording plan grid sfn offset gain →
    entry.id ≡ plan.identity → entry.start ≡ start_of offset → entry.sfn ≡ number_at_start sfn offset →
    answer ≡ Some plan

-- If the recording is clean for a cell whose plan can be sent, and `entry` has the cell's identity, start and frame
-- number, then `answer` is the sent plan.
abbrev pub IsSentPlan : List Sample → Entry → Option CellPlan → Type 0
IsSentPlan recording entry answer =
    (plan : CellPlan) (grid : Elements) (sfn offset : ℕ) (gain : Cpx) (eps : ℕ) → IsSendable plan →
    IsLoaded recording plan grid sfn offset gain eps →
    entry.id ≡ plan.identity → entry.start ≡ start_of offset → entry.sfn ≡ number_at_start sfn offset →
    answer ≡ Some plan

-- a law: if a recording is faithful to a cell whose plan can be sent, whatever else the cell sends, the entry with the
-- cell's identity, start and frame number has the sent plan
abbrev pub FaithfulEntryHasPlan : Type 0
FaithfulEntryHasPlan =
    (recording : List Sample) (entry : Entry) (plan : CellPlan) (grid : Elements) (sfn offset : ℕ) (gain : Cpx) →
    IsRecording recording → IsInList recording entry → IsSendable plan →
    IsFaithful recording plan grid sfn offset gain →
    entry.id ≡ plan.identity → entry.start ≡ start_of offset → entry.sfn ≡ number_at_start sfn offset →
    IsPlanned recording entry plan

-- a law: if a recording is clean for a cell whose plan can be sent, the entry with the cell's identity, start and frame
-- number has the sent plan
abbrev pub SentEntryHasPlan : Type 0
SentEntryHasPlan =
    (recording : List Sample) (entry : Entry) (plan : CellPlan) (grid : Elements) (sfn offset : ℕ) (gain : Cpx)
    (eps : ℕ) → IsRecording recording → IsInList recording entry → IsSendable plan →
    IsLoaded recording plan grid sfn offset gain eps →
    entry.id ≡ plan.identity → entry.start ≡ start_of offset → entry.sfn ≡ number_at_start sfn offset →
    IsPlanned recording entry plan

-- a law: an entry has at most one plan: two results that are its plan, or `None` if it has none, are equal
abbrev pub IsOnePlan : Type 0
IsOnePlan =
    (recording : List Sample) (entry : Entry) (a b : Option CellPlan) → IsPlanOf recording entry a →
    IsPlanOf recording entry b → a ≡ b
