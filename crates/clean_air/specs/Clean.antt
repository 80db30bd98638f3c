-- A receiver's cell list contains each cell of its transmission scheme that it hears, and each MIB that it hears. (own)
use Rattle.std.specs.Prelude.{◌≡◌, ℕ, ◌/◌, ◌≤◌, nat_lt, if◌then◌else◌, MatchBool, List, length, Option, Result, Ok, Err}
use Rattle.std.specs.List.{Contains}
use Rattle.cs_num.specs.declared.Cpx.{Cpx}
use Rattle.cs_num.specs.declared.Sample.{Sample}
use Rattle.lte_types.specs.declared.bandwidth.Bandwidth.TheVariants.{N6}
use Rattle.lte_types.specs.declared.carrier.Carrier.{Carrier}
use Rattle.lte_types.specs.declared.duration.Duration.{Duration}
use Rattle.lte_types.specs.declared.frame.Half.{Half}
use Rattle.lte_types.specs.declared.resource.Resource.{Resource}
use Rattle.lte_types.specs.declared.sib1.Sib1.{Sib1}
use Rattle.lte_types.specs.declared.sib1_reason.Sib1Reason.{Sib1Reason}
use Rattle.lte_types.specs.declared.sib1_reason.Sib1Reason.TheVariants.{LongPrefix as IsLong, NotOnePort}
use Rattle.lte_types.specs.declared.entry.Entry.{Entry}
use Rattle.lte_types.specs.Block.{HasFields}
use Rattle.lte_types.specs.Carrier.{prefix_of, ports_of, has_control_by}
use Rattle.lte_types.specs.Numerology.{least_samples, is_extended}
use Rattle.lte_types.specs.Timing.{start_of, number_at_start}
use Rattle.sss_detect.specs.Place.{start_by_hit}
use Rattle.explain.specs.Receiver.{Receiver, one_port_receiver}
use Rattle.explain.specs.Entries.{IsListFor}
use Rattle.cell_grid.specs.declared.antenna.Port.{Port}
use Rattle.cell_plan.specs.declared.cell.CellPlan.{CellPlan}
use Rattle.cell_plan.specs.Plan.{IsSendableBy}
use Rattle.cell_grid.specs.Grid.{Elements}
use Rattle.cell_tx.specs.Emission.{IsCleanBy}
use Rattle.clean_air.specs.Load.{IsLoadedBy}
use Rattle.clean_air.specs.Faithful.{IsFaithfulBy}
use Rattle.clean_air.specs.Through.{IsSeenThroughBy}
use Rattle.clean_air.specs.Heard.{SentMaster, master_of_plan, IsTakenBy, IsMasterHeard, IsHeardBy}
use Rattle.clean_air.specs.Near.{HoldsCell}
use Rattle.clean_air.specs.Nearest.{IsMasterNearest, IsCellNearest}

-- ---- the plan that is sent

-- the identity and the MIB's spare bits of `plan` are in range
pub record IsKnownPlan (plan : CellPlan) : Type 0 where
  pub identity : plan.identity ≤ 503
  pub spare : plan.spare ≤ 1023

-- A transmission scheme can send the part of `plan` that it uses: the complete plan if the scheme has control channels,
-- and otherwise only the MIB.
abbrev pub IsKnownBy : Carrier → CellPlan → Type 0
IsKnownBy carrier plan = MatchBool (has_control_by carrier) (IsSendableBy carrier plan) (IsKnownPlan plan)

-- the SIB1 result of a cell: SIB1 is read only with the normal cyclic prefix and at most two antenna ports
abbrev pub system_of_carrier : Carrier → Sib1 → Result Sib1 Sib1Reason
system_of_carrier carrier sib1 =
    if is_extended (prefix_of carrier) then Err IsLong
    else (if nat_lt 2 (ports_of carrier) then Err (NotOnePort (ports_of carrier)) else Ok sib1)

-- ---- the entry of a cell

-- The list has exactly one entry with `identity` that starts at sample `first` and has frame number `number`, and the
-- entry has the properties that `is_sent` states.
pub record HoldsOne (list : List Entry) (identity first number : ℕ) (is_sent : Entry → Type 0) : Type 0 where
  pub entry : Entry
  pub inside : Contains list entry
  pub id : entry.id ≡ identity
  pub start : entry.start ≡ first
  pub sfn : entry.sfn ≡ number
  pub sent : is_sent entry
  pub only : (other : Entry) → Contains list other → other.id ≡ identity → other.start ≡ first → other.sfn ≡ number →
      other ≡ entry

-- `entry` has the antenna port count `count` (TS 36.212 section 5.3.1.1), the SIB1 result `answer`, and the fields of
-- the cell's MIB in the frame numbered `number`, with a bandwidth of 6 resource blocks. The MIB holds the upper 8 bits
-- of the frame number (TS 36.331 section 6.2.2), and `lasting`, `share` and `bits` are its PHICH duration, PHICH
-- resource and spare bits. The entry was read from the cell's first whole frame alone, at cost 0.
pub record IsSentEntryBy (count : ℕ) (lasting : Duration) (share : Resource) (bits : ℕ)
    (answer : Result Sib1 Sib1Reason)
    (number : ℕ) (entry : Entry) : Type 0 where
  pub ports : entry.ports ≡ count
  pub block : HasFields entry.mib N6 lasting share (number / 4) bits
  pub sib1 : entry.sib1 ≡ answer
  pub cost : entry.cost ≡ 0
  pub frames : entry.frames ≡ 1
  pub frame : entry.frame ≡ 0

-- the entry has the fields of `plan` that the transmission scheme sends in the frame numbered `number`
abbrev pub IsSentEntryOf : Carrier → CellPlan → ℕ → Entry → Type 0
IsSentEntryOf carrier plan number =
    IsSentEntryBy (ports_of carrier) plan.duration plan.resource plan.spare (system_of_carrier carrier plan.sib1) number

-- `list` contains the cell that sends `plan` and whose frame numbered `number` begins at sample `first`
abbrev pub HoldsCellBy : Carrier → List Entry → CellPlan → ℕ → ℕ → Type 0
HoldsCellBy carrier list plan first number =
    HoldsOne list plan.identity first number (IsSentEntryOf carrier plan number)

-- `entry` has the antenna port count and the MIB fields of `master`, of any bandwidth, in the frame numbered `number`.
-- The entry was read from the first whole frame alone, at cost 0. Nothing is required of its SIB1 result.
pub record IsMasterEntry (master : SentMaster) (number : ℕ) (entry : Entry) : Type 0 where
  pub ports : entry.ports ≡ master.ports
  pub block : HasFields entry.mib master.width master.duration master.resource (number / 4) master.spare
  pub cost : entry.cost ≡ 0
  pub frames : entry.frames ≡ 1
  pub frame : entry.frame ≡ 0

-- ---- the list

-- `list` contains each cell of the receiver's transmission scheme that the receiver hears, for any known plan, first
-- frame number and offset
abbrev pub HoldsHeardBy : Receiver → List Sample → List Entry → Type 0
HoldsHeardBy receiver recording list =
    (plan : CellPlan) (sfn offset : ℕ) → IsKnownBy receiver.carrier plan →
    IsHeardBy receiver recording plan sfn offset →
    HoldsCellBy receiver.carrier list plan (start_of offset) (number_at_start sfn offset)

-- `list` has an entry for each cell whose MIB, of any bandwidth, the receiver hears and whose antenna port count the
-- receiver accepts, and no other entry with the same identity, start and frame number. Nothing is required of the
-- cell's SIB1.
abbrev pub HoldsMasterBy : Receiver → List Sample → List Entry → Type 0
HoldsMasterBy receiver recording list =
    (identity : ℕ) (master : SentMaster) (sfn offset : ℕ) → IsTakenBy receiver master →
    IsMasterHeard receiver recording identity master sfn offset →
    HoldsOne list identity (start_of offset) (number_at_start sfn offset)
    (IsMasterEntry master (number_at_start sfn offset))

-- `list` contains each cell that is nearest at one PSS detection, and at each detection that gives the cell near it, for
-- any known plan, with the scheme's SIB1 result. Soft values may have wrong signs.
abbrev pub HoldsNearestBy : Receiver → List Sample → List Entry → Type 0
HoldsNearestBy receiver recording list =
    (plan : CellPlan) (number t : ℕ) (half : Half) → IsKnownBy receiver.carrier plan →
    IsCellNearest receiver recording plan number t half →
    HoldsCell list plan.identity (start_by_hit t half) number (master_of_plan receiver.carrier plan)
    (λ entry. entry.sib1 ≡ system_of_carrier receiver.carrier plan.sib1)

-- `list` contains each cell whose MIB, of any bandwidth, is nearest in this way, and whose antenna port count the
-- receiver accepts. Nothing is required of the cell's SIB1.
abbrev pub HoldsNearestMasterBy : Receiver → List Sample → List Entry → Type 0
HoldsNearestMasterBy receiver recording list =
    (identity : ℕ) (master : SentMaster) (number t : ℕ) (half : Half) → IsTakenBy receiver master →
    IsMasterNearest receiver recording identity master number t half →
    HoldsCell list identity (start_by_hit t half) number master (λ entry. Unit {0})

-- `list` contains each cell of a transmission scheme to which the recording is faithful, for any known plan, elements
-- outside the plan, first frame number, offset and gains
abbrev pub HoldsFaithfulBy : Carrier → List Sample → List Entry → Type 0
HoldsFaithfulBy carrier recording list =
    (plan : CellPlan) (grids : Port → Elements) (sfn offset : ℕ) (gains : List Cpx) →
    IsKnownBy carrier plan → IsFaithfulBy carrier recording plan grids sfn offset gains →
    HoldsCellBy carrier list plan (start_of offset) (number_at_start sfn offset)

-- `list` contains each cell of a transmission scheme that is received through channels, for any known plan, elements
-- outside the plan, first frame number, offset and channels
abbrev pub HoldsThroughBy : Carrier → List Sample → List Entry → Type 0
HoldsThroughBy carrier recording list =
    (plan : CellPlan) (grids : Port → Elements) (sfn offset : ℕ) →
    IsKnownBy carrier plan → IsSeenThroughBy carrier recording plan grids sfn offset →
    HoldsCellBy carrier list plan (start_of offset) (number_at_start sfn offset)

-- `list` contains each cell of a transmission scheme for which the recording is clean, for any known plan, elements
-- outside the plan, first frame number, offset, gains and errors
abbrev pub HoldsBy : Carrier → List Sample → List Entry → Type 0
HoldsBy carrier recording list =
    (plan : CellPlan) (grids : Port → Elements) (sfn offset : ℕ) (gains : List Cpx) (eps : ℕ) →
    IsKnownBy carrier plan → IsLoadedBy carrier recording plan grids sfn offset gains eps →
    HoldsCellBy carrier list plan (start_of offset) (number_at_start sfn offset)

-- `list` contains each cell of a transmission scheme for which the recording is clean and whose ports send, outside the
-- plan, nothing or a numbered load
abbrev pub HoldsCleanBy : Carrier → List Sample → List Entry → Type 0
HoldsCleanBy carrier recording list =
    (load : Option ℕ) (plan : CellPlan) (sfn offset : ℕ) (gains : List Cpx) (eps : ℕ) →
    IsKnownBy carrier plan → IsCleanBy carrier load recording plan sfn offset gains eps →
    HoldsCellBy carrier list plan (start_of offset) (number_at_start sfn offset)

-- `list` is the defined cell list of the recording (`explained`). It contains each cell of the receiver's scheme and
-- each MIB that the receiver hears or that is nearest, and each cell that is received through channels, to which the
-- recording is faithful, or for which the recording is clean.
pub record IsListBy (receiver : Receiver) (recording : List Sample) (list : List Entry) : Type 0 where
  pub explained : IsListFor receiver recording list
  pub nearest : HoldsNearestBy receiver recording list
  pub nearest_master : HoldsNearestMasterBy receiver recording list
  -- for the four receivers, the clauses after `master` follow from `heard` by laws
  pub heard : HoldsHeardBy receiver recording list
  pub master : HoldsMasterBy receiver recording list
  pub through : HoldsThroughBy receiver.carrier recording list
  pub faithful : HoldsFaithfulBy receiver.carrier recording list
  pub loaded : HoldsBy receiver.carrier recording list
  pub holds : HoldsCleanBy receiver.carrier recording list

-- the cell list for one antenna port and the normal cyclic prefix
abbrev pub IsListOfCells : List Sample → List Entry → Type 0
IsListOfCells = IsListBy one_port_receiver

-- `list` contains each cell of the receiver's scheme and each MIB that the receiver hears or that is nearest, and each
-- cell that is received through channels or to which the recording is faithful
pub record HoldsSeenBy (receiver : Receiver) (recording : List Sample) (list : List Entry) : Type 0 where
  pub nearest : HoldsNearestBy receiver recording list
  pub nearest_master : HoldsNearestMasterBy receiver recording list
  pub heard : HoldsHeardBy receiver recording list
  pub master : HoldsMasterBy receiver recording list
  pub through : HoldsThroughBy receiver.carrier recording list
  pub faithful : HoldsFaithfulBy receiver.carrier recording list

-- a law: for a recording of at least 57,600 samples, the list of `receiver` contains each cell of its scheme and each
-- MIB that the receiver hears or that is nearest, and each cell that is received through channels or to which the
-- recording is faithful
abbrev pub HoldsCells : Receiver → Type 0
HoldsCells receiver =
    (recording : List Sample) (list : List Entry) → least_samples ≤ length recording →
    IsListFor receiver recording list → HoldsSeenBy receiver recording list
