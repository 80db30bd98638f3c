-- Cells with one antenna port that arrive over several paths: a direct one, and fainter echoes up to 9 samples later,
-- within the cyclic prefix. (own; the prefix is in TS 36.211 section 6.12)
use Rattle.std.specs.Prelude.{◌≡◌, ℕ, ◌+◌, ◌*◌, ◌^◌, ◌<◌, ◌≤◌, List, length}
use Rattle.cs_num.specs.declared.Cpx.{Cpx}
use Rattle.cs_num.specs.declared.Sample.{Sample}
use Rattle.cs_num.specs.Complex.{square}
use Rattle.norms.specs.Magnitudes.{energy_below}
use Rattle.crs.specs.Reference.{port_0}
use Rattle.lte_types.specs.declared.carrier.Carrier.TheVariants.{OnePort}
use Rattle.lte_types.specs.Numerology.{frame_length, least_samples, normal, useful_start, useful_length}
use Rattle.lte_types.specs.Timing.{IsOffset}
use Rattle.soft_bits.specs.Soft.{SeenSlot}
use Rattle.budget.specs.Received.{in_parts, off_by, samples_from}
use Rattle.budget.specs.Paths.{Paths, AreFaint, only_path, arriving, over, path_bounds, IsSlotReceivedOver}
use Rattle.cell_grid.specs.declared.antenna.Port.{Port}
use Rattle.cell_grid.specs.Ports.{only_port}
use Rattle.cell_plan.specs.declared.cell.CellPlan.{CellPlan}
use Rattle.cell_grid.specs.Grid.{Elements}
use Rattle.cell_tx.specs.Sent.{sent}
use Rattle.clean_air.specs.Load.{CarriesPlan, IsLoaded}
use Rattle.clean_air.specs.Faithful.{IsLookedAt}
use Rattle.clean_air.specs.Through.{IsSlotThrough, IsSeenThroughBy}

-- a law: a slot whose seven symbols are received over the same paths is received through the paths' channel, if the
-- later paths are faint
abbrev pub SlotOverIsThrough : Type 0
SlotOverIsThrough =
    (magnitudes : ℕ → ℕ) (paths : Paths) (recording : List Sample) (starts : ℕ → ℕ) (grids : ℕ → ℕ → Cpx)
    (slot : SeenSlot) → AreFaint magnitudes paths → IsSlotReceivedOver paths port_0 7 recording starts grids slot →
    IsSlotThrough path_bounds (square paths.first) (over paths) grids slot

-- the energy, in units of 2^-28, of the difference between the 128 samples from `start` and the signal with elements
-- `grid` as it arrives over `paths`
abbrev pub errors_over : List Sample → Elements → ℕ → ℕ → Paths → ℕ → ℕ
errors_over recording grid sfn offset paths start =
    energy_below useful_length
    (off_by (samples_from recording start) (λ n. arriving paths (λ i. sent grid sfn i) (start + n + offset)))

-- A cell's only port sends elements that carry the plan, from frame number `sfn`, and the cell is received over several
-- paths with faint later ones. In each symbol that the receiver reads, whose useful part begins at sample `start`, the
-- error energy is at most 1024 times the square of the first path's gain. Other samples are unconstrained.
pub record IsEchoedBy (magnitudes : ℕ → ℕ) (paths : Paths) (recording : List Sample) (plan : CellPlan)
    (grids : Port → Elements) (sfn offset : ℕ) : Type 0 where
  pub number : sfn ≤ 1023
  pub within : IsOffset offset
  pub carries : CarriesPlan only_port plan (grids only_port)
  pub sounds : 2 ^ 28 ≤ square paths.first
  pub faint : AreFaint magnitudes paths
  pub near : (frame slot symbol start : ℕ) → slot < 20 → symbol < 7 →
      start + offset ≡ frame_length * frame + useful_start normal 0 slot symbol →
      IsLookedAt OnePort sfn offset frame slot symbol start →
      errors_over recording (grids only_port) sfn offset paths start ≤ 1024 * square paths.first

-- a law: a cell that arrives over several paths with faint later ones is received through channels
abbrev pub EchoesAreThrough : Type 0
EchoesAreThrough =
    (magnitudes : ℕ → ℕ) (paths : Paths) (recording : List Sample) (plan : CellPlan) (grids : Port → Elements)
    (sfn offset : ℕ) → plan.identity ≤ 503 → IsEchoedBy magnitudes paths recording plan grids sfn offset →
    IsSeenThroughBy OnePort recording plan grids sfn offset

-- a law: in a recording that is clean for a cell with one antenna port, the cell arrives over one path, whose gain is
-- the recording's integer gain in units of 2^-14
abbrev pub LoadedIsEchoed : Type 0
LoadedIsEchoed =
    (recording : List Sample) (plan : CellPlan) (grid : Elements) (sfn offset : ℕ) (gain : Cpx) (eps : ℕ) →
    least_samples ≤ length recording → IsLoaded recording plan grid sfn offset gain eps →
    IsEchoedBy (λ path. 0) (only_path (in_parts gain)) recording plan (λ port. grid) sfn offset
