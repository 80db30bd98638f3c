-- Clean recordings of a plan with the extended cyclic prefix, whose cell list contains the plan's cell. (own)
use Rattle.std.specs.Prelude.{ℕ, ◌≤◌, List, Err}
use Rattle.cs_num.specs.declared.Cpx.{Cpx}
use Rattle.cs_num.specs.declared.Sample.{Sample}
use Rattle.lte_types.specs.declared.entry.Entry.{Entry}
use Rattle.lte_types.specs.declared.sib1_reason.Sib1Reason.TheVariants.{LongPrefix}
use Rattle.lte_types.specs.Timing.{start_of, number_at_start}
use Rattle.cell_tx.specs.Clean.{IsCleanOf}
use Rattle.clean_air.specs.Clean.{HoldsOne, IsSentEntryBy}
use Rattle.long_prefix.specs.declared.plan.LongPlan.{LongPlan}
use Rattle.long_prefix.specs.Sent.{long_sent, IsKnownLong}

-- `recording` is a clean recording of the plan's samples, from `offset` samples into frame `sfn`, with the gain `gain`
-- and error components of magnitude at most `eps`
pub record IsCleanOfLong (recording : List Sample) (plan : LongPlan) (sfn offset : ℕ) (gain : Cpx) (eps : ℕ) :
    Type 0 where
  pub number : sfn ≤ 1023
  pub samples : IsCleanOf (long_sent plan sfn) recording offset gain eps

-- `list` contains the cell of each plan for which `recording` is clean, with one antenna port and without SIB1, for any
-- identity, MIB, first frame number, offset, gain and errors
abbrev pub HoldsPlans : List Sample → List Entry → Type 0
HoldsPlans recording list =
    (plan : LongPlan) (sfn offset : ℕ) (gain : Cpx) (eps : ℕ) → IsKnownLong plan →
    IsCleanOfLong recording plan sfn offset gain eps →
    HoldsOne list plan.id (start_of offset) (number_at_start sfn offset)
    (IsSentEntryBy 1 plan.mib.duration plan.mib.resource plan.mib.spare (Err LongPrefix) (number_at_start sfn offset))
