-- Laws on the cancellation of a cell. (own)
use Rattle.std.specs.Prelude.{◌≡◌, ℕ, ◌*◌, ◌<◌, ◌≤◌, List, Option}
use Rattle.cs_num.specs.declared.Cpx.{Cpx}
use Rattle.cs_num.specs.declared.Sample.{Sample}
use Rattle.cs_num.specs.Complex.{IsWithin, times, minus, square}
use Rattle.cs_num.specs.Gain.{IsGain}
use Rattle.norms.specs.Magnitudes.{energy_below}
use Rattle.sample_file.specs.Recording.{IsRecording}
use Rattle.cell_plan.specs.declared.cell.CellPlan.{CellPlan}
use Rattle.cancel.specs.declared.subtracted.Subtracted.{Subtracted}
use Rattle.cancel.specs.Gain.{estimate, IsCandidate, IsBest, greatest_below}
use Rattle.cancel.specs.Residue.{IsSubtraction, TakesLoadedOff, TakesCleanOff}
use Rattle.lte_types.specs.Numerology.{useful_length}

-- 128 samples are a signal times a gain of magnitude 1 to 28, plus errors. Each error component is at most `eps`, which
-- is at most twice the gain's magnitude. `power`: the signal has an energy of at least 1,990,000, as the PSS has.
pub record IsGainSeen (eps : ℕ) (gain : Cpx) (samples signal : ℕ → Cpx) : Type 0 where
  pub range : IsGain gain
  pub quiet : eps * eps ≤ 4 * square gain
  pub power : 1990000 ≤ energy_below useful_length signal
  pub near : (n : ℕ) → n < useful_length → IsWithin eps (minus (samples n) (times gain (signal n)))

-- if 128 samples are a signal times a gain, plus errors up to twice the gain's magnitude (`IsGainSeen`), the estimate
-- has a distance up to 1 from the gain
abbrev pub EstimateIsNear : Type 0
EstimateIsNear = (eps : ℕ) (gain : Cpx) (samples signal : ℕ → Cpx) → IsGainSeen eps gain samples signal →
    square (minus gain (estimate samples signal)) ≤ 1

-- if 128 samples are a signal times a gain, plus errors up to twice the gain's magnitude (`IsGainSeen`), the gain is a
-- candidate near the estimate
abbrev pub GainIsCandidate : Type 0
GainIsCandidate = (eps : ℕ) (gain : Cpx) (samples signal : ℕ → Cpx) → IsGainSeen eps gain samples signal →
    IsCandidate (estimate samples signal) gain

-- the largest residual component of the best candidate does not exceed any other candidate's largest residual component
abbrev pub BestLeavesLeast : Type 0
BestLeavesLeast =
    (count : ℕ) (left : Cpx → ℕ → Cpx) (middle best gain : Cpx) (bound : ℕ) →
    IsBest (λ g. greatest_below count (left g)) middle best → IsCandidate middle gain →
    ((i : ℕ) → i < count → IsWithin bound (left gain i)) →
    (greatest_below count (left best) ≤ bound) × ((i : ℕ) → i < count → IsWithin bound (left best i))

-- for each recording and cell, cancellation has a result: the cell is cancelled, or no gain is a candidate
abbrev pub IsSomeSubtraction : Type 0
IsSomeSubtraction = (recording : List Sample) (plan : CellPlan) (start number : ℕ) →
    (answer : Option Subtracted) × IsSubtraction recording plan start number answer

-- if the recording is clean for a cell with load, no residual component exceeds a bound, at most 32,767, that none
-- exceeds for the true gain
abbrev pub AnswerTakesLoadedOff : Type 0
AnswerTakesLoadedOff =
    (recording : List Sample) (plan : CellPlan) (start number : ℕ) (answer : Option Subtracted) →
    IsRecording recording → IsSubtraction recording plan start number answer →
    TakesLoadedOff recording plan start number answer

-- if the recording is clean for a cell without load, no residual component exceeds the error bound `eps`
abbrev pub AnswerTakesCleanOff : Type 0
AnswerTakesCleanOff =
    (recording : List Sample) (plan : CellPlan) (start number : ℕ) (answer : Option Subtracted) →
    IsRecording recording → IsSubtraction recording plan start number answer →
    TakesCleanOff recording plan start number answer

-- there is at most one best candidate gain
abbrev pub IsOneBest : Type 0
IsOneBest = (greatest : Cpx → ℕ) (middle gain other : Cpx) → IsBest greatest middle gain →
    IsBest greatest middle other → gain ≡ other

-- there is at most one result of the cancellation of a cell
abbrev pub IsOneSubtraction : Type 0
IsOneSubtraction = (recording : List Sample) (plan : CellPlan) (start number : ℕ) (a b : Option Subtracted) →
    IsSubtraction recording plan start number a → IsSubtraction recording plan start number b → a ≡ b
