-- Laws of reception near the waveform: what errors relative to it leave of a demodulated amplitude, and which cells are
-- heard. (own)
use Rattle.std.specs.Prelude.{ℕ, ◌^◌, ◌<◌, ◌≤◌, List}
use Rattle.cs_num.specs.declared.Cpx.{Cpx}
use Rattle.cs_num.specs.declared.Sample.{Sample}
use Rattle.norms.specs.Magnitudes.{energy_below}
use Rattle.lte_types.specs.declared.carrier.Carrier.{Carrier}
use Rattle.lte_types.specs.Numerology.{subcarriers}
use Rattle.explain.specs.Receiver.{Receiver}
use Rattle.budget.specs.Received.{AreAmplitudes, IsSeenBy}
use Rattle.budget.specs.Budget.{seen_in}
use Rattle.cell_grid.specs.declared.antenna.Port.{Port}
use Rattle.cell_grid.specs.Grid.{Elements}
use Rattle.cell_plan.specs.declared.cell.CellPlan.{CellPlan}
use Rattle.clean_air.specs.Clean.{IsKnownBy}
use Rattle.clean_air.specs.Faithful.{IsFaithfulBy}
use Rattle.clean_air.specs.Heard.{IsHeardBy}
use Rattle.waveform.specs.Waveform.{error_energy, IsWithinQuota, IsNearWaveform}

-- the amplitudes that several ports send are demodulated as their sum, within `most` times the gains' root sum square,
-- if the error energy relative to the waveform is at most `quota` times the gains' summed squares
abbrev pub WaveformIsSeen : ℕ → ℕ → ℕ → Type 0
WaveformIsSeen ports quota most =
    (gains : ℕ → Cpx) (grids : ℕ → ℕ → Cpx) (samples : ℕ → Cpx) (k : ℕ) →
    ((port : ℕ) → port < ports → AreAmplitudes (grids port)) → 2 ^ 28 ≤ energy_below ports gains →
    IsWithinQuota quota (energy_below ports gains) (error_energy ports gains grids samples) → k < subcarriers →
    IsSeenBy ports most gains (λ port. grids port k) (seen_in samples k)

-- each cell of a receiver's transmission scheme whose waveform the recording is near is heard
abbrev pub NearWaveformIsHeard : Receiver → Type 0
NearWaveformIsHeard receiver =
    (recording : List Sample) (plan : CellPlan) (grids : Port → Elements) (sfn offset : ℕ) (gains : List Cpx) →
    IsKnownBy receiver.carrier plan → IsNearWaveform receiver.carrier recording plan grids sfn offset gains →
    IsHeardBy receiver recording plan sfn offset

-- a recording that is faithful to a cell of this transmission scheme is near its waveform
abbrev pub FaithfulIsNearWaveform : Carrier → Type 0
FaithfulIsNearWaveform carrier =
    (recording : List Sample) (plan : CellPlan) (grids : Port → Elements) (sfn offset : ℕ) (gains : List Cpx) →
    IsFaithfulBy carrier recording plan grids sfn offset gains →
    IsNearWaveform carrier recording plan grids sfn offset gains
