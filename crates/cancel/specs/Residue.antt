-- The residual of a recording after the cancellation of a cell. (own)
use Rattle.std.specs.Prelude.{◌≡◌, ℕ, ◌+◌, ◌%◌, ◌<◌, ◌≤◌, List, length, Option, Some, None, IsSomeAnd}
use Rattle.finite.specs.Lists.{values_below}
use Rattle.cs_num.specs.declared.Cpx.{Cpx}
use Rattle.cs_num.specs.declared.Sample.{Sample}
use Rattle.cs_num.specs.Complex.{IsWithin, sample_at, minus, times}
use Rattle.cs_num.specs.Rounding.{nearest_sample}
use Rattle.norms.specs.Magnitudes.{energy_below}
use Rattle.lte_types.specs.Numerology.{primary_start}
use Rattle.lte_types.specs.declared.frame.Half.TheVariants.{Zero}
use Rattle.lte_types.specs.Timing.{start_of, number_at_start, offset_of, number_before}
use Rattle.pss_search.specs.Correlation.{wave}
use Rattle.cell_plan.specs.declared.cell.CellPlan.{CellPlan}
use Rattle.cell_grid.specs.Grid.{element}
use Rattle.cell_grid.specs.Grid.{Elements}
use Rattle.cell_tx.specs.Sent.{sent}
use Rattle.cell_plan.specs.Pair.{gain_of}
use Rattle.cell_tx.specs.Clean.{IsClean}
use Rattle.clean_air.specs.Load.{IsLoaded}
use Rattle.cancel.specs.declared.subtracted.Subtracted.{Subtracted}
use Rattle.cancel.specs.Gain.{estimate, IsCandidate, greatest_below, IsBest}

-- ---- the cell, with the start of a frame in the recording and the frame's number

-- the gain estimate from the PSS in the frame that begins at sample `start`
abbrev pub estimate_at : List Sample → CellPlan → ℕ → Cpx
estimate_at recording plan start =
    estimate (λ n. sample_at recording (start + primary_start Zero + n)) (wave (plan.identity % 3))

-- the cell's sample at sample `i` of the recording, if the cell's frame numbered `number` begins at sample `start`
abbrev pub sent_at : CellPlan → ℕ → ℕ → ℕ → Cpx
sent_at plan start number i = sent (element plan) (number_before start number) (i + offset_of start)

-- ---- residuals

-- the residual at sample `i`: the recording's sample less the transmitted sample times the gain
abbrev pub left_at : List Sample → CellPlan → ℕ → ℕ → Cpx → ℕ → Cpx
left_at recording plan start number gain i = minus (sample_at recording i) (times gain (sent_at plan start number i))

-- the largest component magnitude of the residual over all samples of the recording
abbrev pub greatest_left : List Sample → CellPlan → ℕ → ℕ → Cpx → ℕ
greatest_left recording plan start number gain =
    greatest_below (length recording) (left_at recording plan start number gain)

-- the gain that is used to cancel the cell: the candidate whose residual has the smallest maximum component
abbrev pub IsTaken : List Sample → CellPlan → ℕ → ℕ → Cpx → Type 0
IsTaken recording plan start number gain =
    IsBest (greatest_left recording plan start number) (estimate_at recording plan start) gain

-- the residual for a gain, with each component clamped to 16 bits
abbrev pub residue_of : List Sample → CellPlan → ℕ → ℕ → Cpx → List Sample
residue_of recording plan start number gain =
    values_below (length recording) (λ i. nearest_sample (left_at recording plan start number gain i))

-- the power of samples: the sum of their squared magnitudes
abbrev pub power_of : List Sample → ℕ
power_of samples = energy_below (length samples) (sample_at samples)

-- The cell is cancelled with the best gain. `taken` holds the gain, the residual, the residual's largest component
-- before the clamp, and the power of the recording and of the residual.
pub record IsSubtracted (recording : List Sample) (plan : CellPlan) (start number : ℕ)
    (taken : Subtracted) : Type 0 where
  pub gain : IsTaken recording plan start number (gain_of taken.gain)
  pub greatest : taken.greatest ≡ greatest_left recording plan start number (gain_of taken.gain)
  pub residue : taken.residue ≡ residue_of recording plan start number (gain_of taken.gain)
  pub before : taken.before ≡ power_of recording
  pub after : taken.after ≡ power_of taken.residue

-- the cell is cancelled with the best gain, or the result is `None` since no gain is a candidate
abbrev pub IsSubtraction : List Sample → CellPlan → ℕ → ℕ → Option Subtracted → Type 0
IsSubtraction recording plan start number (Some taken) = IsSubtracted recording plan start number taken
IsSubtraction recording plan start number None = (gain : Cpx) → IsCandidate (estimate_at recording plan start) gain → ⊥

-- ---- clean recordings

-- no component of the residual exceeds `eps`, either before the clamp to 16 bits or after it
pub record IsLeftWithin (eps : ℕ) (taken : Subtracted) : Type 0 where
  pub greatest : taken.greatest ≤ eps
  pub each : (i : ℕ) → i < length taken.residue → IsWithin eps (sample_at taken.residue i)

-- If the recording is clean for the cell, which may carry load, and `start` and `number` are the start and number of
-- its first whole frame, the cell is cancelled. No residual component exceeds `most`, if none exceeds `most` for the
-- true gain, and `most` is at most 32,767.
abbrev pub TakesLoadedOff : List Sample → CellPlan → ℕ → ℕ → Option Subtracted → Type 0
TakesLoadedOff recording plan start number answer =
    (grid : Elements) (sfn offset : ℕ) (gain : Cpx) (eps most : ℕ) → IsLoaded recording plan grid sfn offset gain eps →
    start ≡ start_of offset →
    number ≡ number_at_start sfn offset → most ≤ 32767 →
    ((i : ℕ) → i < length recording → IsWithin most (left_at recording plan start number gain i)) →
    IsSomeAnd answer (IsLeftWithin most)

-- If the recording is clean for the cell, without load, and `start` and `number` are the start and number of its first
-- whole frame, the cell is cancelled, and no residual component exceeds `eps`.
abbrev pub TakesCleanOff : List Sample → CellPlan → ℕ → ℕ → Option Subtracted → Type 0
TakesCleanOff recording plan start number answer =
    (sfn offset : ℕ) (gain : Cpx) (eps : ℕ) → IsClean recording plan sfn offset gain eps → start ≡ start_of offset →
    number ≡ number_at_start sfn offset → IsSomeAnd answer (IsLeftWithin eps)
