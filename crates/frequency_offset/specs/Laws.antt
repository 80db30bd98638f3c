-- Laws of offset correction and estimation. (own)
use Rattle.std.specs.Prelude.{◌≡◌, ◌≤ℤ◌, List, All, ℤ, pos, negsuc, Option, Some, FitsSigned}
use Rattle.std.specs.Int.{w16}
use Rattle.cs_num.specs.declared.Sample.{Sample}
use Rattle.cs_num.specs.Complex.{nothing}
use Rattle.sample_file.specs.Recording.{IsRecording}
use Rattle.frequency_offset.specs.declared.estimation.OffsetEstimate.{OffsetEstimate}
use Rattle.frequency_offset.specs.Turned.{mean, turned}
use Rattle.frequency_offset.specs.Estimation.{HasCells, IsEstimated, IsApplied}

-- both components of a sample fit in 16 signed bits
pub record Has16Bits (sample : Sample) : Type 0 where
  pub re : FitsSigned w16 sample.re
  pub im : FitsSigned w16 sample.im

-- correction by 0 leaves a recording with mean 0 unchanged
abbrev pub StaysAtZero : Type 0
StaysAtZero =
    (recording : List Sample) → All Has16Bits recording → mean recording ≡ nothing →
    turned recording (pos 0) ≡ recording

-- a recording has only one estimate
abbrev pub HasOneEstimate : Type 0
HasOneEstimate =
    (recording : List Sample) (first second : Option OffsetEstimate) → IsEstimated recording first →
    IsEstimated recording second →
    first ≡ second

-- a recording is corrected by its estimate in only one way
abbrev pub IsOneApplied : Type 0
IsOneApplied =
    (recording first second : List Sample) → IsApplied recording first → IsApplied recording second → first ≡ second

-- if a recording has an estimate, the corrected recording has the estimated number of cells
abbrev pub ReportedCellsAreListed : Type 0
ReportedCellsAreListed =
    (recording applied : List Sample) (estimate : OffsetEstimate) → IsEstimated recording (Some estimate) →
    IsApplied recording applied →
    HasCells applied estimate.cells

-- the estimated offset is from -576 to 575 steps of 117.1875 Hz, at most 67.5 kHz in magnitude
pub record IsTurnInRange (estimate : OffsetEstimate) : Type 0 where
  pub least : negsuc 575 ≤ℤ estimate.turn
  pub most : estimate.turn ≤ℤ pos 575

-- every estimated offset of a recording is in range
abbrev pub TurnIsInRange : Type 0
TurnIsInRange = (recording : List Sample) (estimate : OffsetEstimate) → IsEstimated recording (Some estimate) →
    IsTurnInRange estimate

-- a valid recording stays valid when corrected by any offset
abbrev pub TurnedIsRecording : Type 0
TurnedIsRecording = (recording : List Sample) (m : ℤ) → IsRecording recording → IsRecording (turned recording m)
