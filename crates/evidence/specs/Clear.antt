-- An entry's measurements for a cell with clean reception. (own)
use Rattle.std.specs.Prelude.{◌≡◌, ℕ, ◌*◌, ◌^◌, ◌≤◌, List, length}
use Rattle.cs_num.specs.declared.Cpx.{Cpx}
use Rattle.cs_num.specs.declared.Sample.{Sample}
use Rattle.cs_num.specs.Complex.{square}
use Rattle.lte_types.specs.declared.entry.Entry.{Entry}
use Rattle.lte_types.specs.declared.evidence.Evidence.{Evidence}
use Rattle.lte_types.specs.Numerology.{least_samples}
use Rattle.lte_types.specs.Timing.{start_of, number_at_start}
use Rattle.explain.specs.Entries.{IsInList}
use Rattle.cell_plan.specs.declared.cell.CellPlan.{CellPlan}
use Rattle.cell_plan.specs.Plan.{IsSendable}
use Rattle.cell_grid.specs.Grid.{Elements}
use Rattle.evidence.specs.Evidence.{IsEvidence}
use Rattle.clean_air.specs.Load.{IsLoaded}
use Rattle.clean_air.specs.Faithful.{IsFaithful}

-- ---- the measurements

-- the MIB was decoded at cost 0 from the first whole frame alone, and the PSS explains at least 0.999 of the energy at
-- its detection
pub record IsCertain (numbers : Evidence) : Type 0 where
  pub cost : numbers.cost ≡ 0
  pub frames : numbers.frames ≡ 1
  pub frame : numbers.frame ≡ 0
  pub peak : 999 ≤ numbers.peak

-- The noise estimate is at most 289,321,537 times the squared magnitude of `gain`, which is in units of 2^-14, and at
-- most 3/8 of the pilots' energy. The factor is 20 times the square of 4 * 128 * 2316, divided by 97,200 and rounded
-- up: 20 second differences add up three pilots each, which are off by less than 37 amplitude units, and the middle
-- pilot counts twice.
pub record IsSupported (gain : Cpx) (numbers : Evidence) : Type 0 where
  pub certain : IsCertain numbers
  pub noise : 2 ^ 28 * numbers.noise ≤ 289321537 * square gain
  pub quiet : 8 * numbers.noise ≤ 3 * numbers.power

-- The noise estimate is at most 198,841,079 times the squared magnitude of the integer gain `gain`, and at most a
-- quarter of the pilots' energy. The factor is computed as in `IsSupported`: the pilots are off by at most 30 amplitude
-- units, so 1920 replaces 2316.
pub record IsClear (gain : Cpx) (numbers : Evidence) : Type 0 where
  pub certain : IsCertain numbers
  pub noise : numbers.noise ≤ 198841079 * square gain
  pub quiet : 4 * numbers.noise ≤ numbers.power

-- ---- laws

-- a law: if a recording is faithful to a cell, the measurements of the cell's entry satisfy `IsSupported`, for any
-- plan, elements sent elsewhere, frame number, offset, gain and errors
abbrev pub FaithfulEntriesAreSupported : Type 0
FaithfulEntriesAreSupported =
    (recording : List Sample) (entry : Entry) (numbers : Evidence) (plan : CellPlan) (grid : Elements) (sfn offset : ℕ)
    (gain : Cpx) → least_samples ≤ length recording → IsInList recording entry →
    IsEvidence recording entry numbers →
    IsSendable plan → IsFaithful recording plan grid sfn offset gain →
    entry.id ≡ plan.identity → entry.start ≡ start_of offset → entry.sfn ≡ number_at_start sfn offset →
    IsSupported gain numbers

-- a law: if a recording is clean for a cell, the measurements of the cell's entry satisfy `IsClear`, for any plan,
-- elements sent elsewhere, frame number, offset, gain and errors
abbrev pub CleanEntriesAreClear : Type 0
CleanEntriesAreClear =
    (recording : List Sample) (entry : Entry) (numbers : Evidence) (plan : CellPlan) (grid : Elements) (sfn offset : ℕ)
    (gain : Cpx) (eps : ℕ) → least_samples ≤ length recording → IsInList recording entry →
    IsEvidence recording entry numbers →
    IsSendable plan → IsLoaded recording plan grid sfn offset gain eps →
    entry.id ≡ plan.identity → entry.start ≡ start_of offset → entry.sfn ≡ number_at_start sfn offset →
    IsClear gain numbers
