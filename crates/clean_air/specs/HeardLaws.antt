-- Laws of reception: which premises on a cell's samples imply that the receiver hears the cell. (own)
use Rattle.std.specs.Prelude.{ℕ, List}
use Rattle.cs_num.specs.declared.Cpx.{Cpx}
use Rattle.cs_num.specs.declared.Sample.{Sample}
use Rattle.lte_types.specs.declared.carrier.Carrier.{Carrier}
use Rattle.explain.specs.Receiver.{Receiver, one_port_receiver}
use Rattle.budget.specs.Paths.{Paths}
use Rattle.budget.specs.Peak.{PrimaryStandsOutBy}
use Rattle.cell_grid.specs.declared.antenna.Port.{Port}
use Rattle.cell_grid.specs.Grid.{Elements}
use Rattle.cell_plan.specs.declared.cell.CellPlan.{CellPlan}
use Rattle.cell_plan.specs.Plan.{IsSendable}
use Rattle.clean_air.specs.Faithful.{IsFaithfulBy}
use Rattle.clean_air.specs.Through.{ShowsSignals, IsSeenThroughBy}
use Rattle.clean_air.specs.Fading.{IsFadingBy, LeaveFadingRoom}
use Rattle.clean_air.specs.Echo.{IsEchoedBy}
use Rattle.clean_air.specs.Clean.{IsKnownBy}
use Rattle.clean_air.specs.Heard.{IdentityIsBest, IsHeardBy}

-- a law: a primary signal with an error energy up to 14,000 times its gain's square has a normalised PSS metric of at
-- least 0.25, greater than at each other sample at most 9 away that has energy
abbrev pub PrimaryStandsOutByRule : Type 0
PrimaryStandsOutByRule = PrimaryStandsOutBy 14000 250

-- a law: a cell whose synchronisation signals are received through channels has its identity detected
abbrev pub ShownIdentityIsBest : Type 0
ShownIdentityIsBest =
    (carrier : Carrier) (recording : List Sample) (identity offset : ℕ) →
    ShowsSignals carrier recording identity offset → IdentityIsBest carrier recording identity offset

-- a law: the receiver hears each cell of its transmission scheme to which the recording is faithful
abbrev pub FaithfulIsHeard : Receiver → Type 0
FaithfulIsHeard receiver =
    (recording : List Sample) (plan : CellPlan) (grids : Port → Elements) (sfn offset : ℕ) (gains : List Cpx) →
    IsKnownBy receiver.carrier plan → IsFaithfulBy receiver.carrier recording plan grids sfn offset gains →
    IsHeardBy receiver recording plan sfn offset

-- a law: the receiver hears each cell of its transmission scheme that is received through channels
abbrev pub ThroughIsHeard : Receiver → Type 0
ThroughIsHeard receiver =
    (recording : List Sample) (plan : CellPlan) (grids : Port → Elements) (sfn offset : ℕ) →
    IsKnownBy receiver.carrier plan → IsSeenThroughBy receiver.carrier recording plan grids sfn offset →
    IsHeardBy receiver recording plan sfn offset

-- a law: the receiver hears each cell with one antenna port whose gain varies slowly, if `quota` and `bend` leave room
abbrev pub FadingIsHeard : Type 0
FadingIsHeard =
    (quota bend : ℕ) (recording : List Sample) (plan : CellPlan) (grids : Port → Elements) (sfn offset : ℕ)
    (gains : ℕ → ℕ → ℕ → Cpx) (signal_gains : ℕ → ℕ → Cpx) → LeaveFadingRoom quota bend → IsSendable plan →
    IsFadingBy quota bend recording plan grids sfn offset gains signal_gains →
    IsHeardBy one_port_receiver recording plan sfn offset

-- a law: the receiver hears each cell with one antenna port that arrives over several paths, if the later paths are
-- faint
abbrev pub EchoesAreHeard : Type 0
EchoesAreHeard =
    (magnitudes : ℕ → ℕ) (paths : Paths) (recording : List Sample) (plan : CellPlan) (grids : Port → Elements)
    (sfn offset : ℕ) → IsSendable plan → IsEchoedBy magnitudes paths recording plan grids sfn offset →
    IsHeardBy one_port_receiver recording plan sfn offset
