-- A receiver of one antenna port hears each cell that is received through channels, whatever else the cell sends, and
-- so each to which the recording is faithful.
use Rattle.std.proofs.Common.{ℕ, ◌*◌, ◌/◌, ◌%◌, ◌<◌, ◌≤◌, List, Bool, arith, refl, subst}
use Rattle.cs_num.specs.declared.Cpx.{Cpx}
use Rattle.cs_num.specs.declared.Sample.{Sample}
use Rattle.lte_types.specs.declared.carrier.Carrier.TheVariants.{OnePort}
use Rattle.lte_types.specs.declared.hit.Hit.{Hit}
use Rattle.lte_types.specs.Carrier.{prefix_of}
use Rattle.lte_types.specs.Timing.{start_of, number_at_start}
use Rattle.pss_search.specs.Hits.{found}
use Rattle.grid_map.specs.Scrambling.{pbch_c_init}
use Rattle.soft_bits.specs.Places.{placed_values}
use Rattle.pbch.specs.Values.{received_values}
use Rattle.budget.proofs.Scores.{sent_pair_is_identified_through}
use Rattle.cell_grid.specs.declared.antenna.Port.{Port}
use Rattle.cell_grid.specs.Grid.{Elements}
use Rattle.cell_grid.specs.Ports.{only_port}
use Rattle.cell_plan.specs.declared.cell.CellPlan.{CellPlan}
use Rattle.cell_grid.specs.Block.{broadcast_word}
use Rattle.explain.specs.Frame.{seen_slot, broadcast_slot}
use Rattle.explain.specs.Receiver.{Receiver, one_port_receiver}
use Rattle.clean_air.specs.Carried.{SpeakOfWord}
use Rattle.clean_air.specs.Clean.{HoldsCells}
use Rattle.clean_air.specs.Faithful.{IsFaithfulBy}
use Rattle.clean_air.specs.Heard.{word_of_master, master_of_plan, sent_place, IsMasterHeard}
use Rattle.clean_air.specs.Through.{ShowsSignals}
use Rattle.clean_air.specs.HeardLaws.{ShownIdentityIsBest, FaithfulIsHeard, ThroughIsHeard, FadingIsHeard, EchoesAreHeard}
use Rattle.clean_air.proofs.BestPairs.{best_of_identified}
use Rattle.clean_air.proofs.Held.{HearsCells, number_fits, heard_are_held}
use Rattle.clean_air.proofs.Masters.{slot_speaks}
use Rattle.clean_air.proofs.Signals.{signals_shown}
use Rattle.clean_air.proofs.SentBlock.{is_block, same_word}
use Rattle.clean_air.proofs.SentSlots.{slot_grid, carries_word}
use Rattle.clean_air.proofs.HeardCells.{through_is_heard}
use Rattle.clean_air.proofs.FaithfulCells.{faithful_is_through}
use Rattle.clean_air.proofs.FadingCells.{fading_is_through}
use Rattle.clean_air.proofs.EchoCells.{echoes_are_through}
use Rattle.clean_air.proofs.SentSystem.{system_heard}
use Rattle.clean_air.proofs.NearestWords.{nearest_system_is_read}
use Rattle.clean_air.proofs.SpokenSystem.{heard_system_is_read, read_system_is_answer}

-- signals that are received through a channel give the identity, with either prefix
pub shown_identity_is_best : ShownIdentityIsBest
shown_identity_is_best carrier recording identity offset shown t half at middle high =
    let both = shown.both t half at middle high in
    let hit : Hit = found recording t (identity % 3) in
    best_of_identified (prefix_of carrier) recording hit (identity / 3) half
    (sent_pair_is_identified_through both.most both.least both.square both.channel (prefix_of carrier) recording hit (identity / 3) half both.room both.through)

pub through_cell_is_heard : ThroughIsHeard one_port_receiver
unfolding seen_slot
through_cell_is_heard recording plan grids sfn offset sendable through =
    let number : ℕ = number_at_start sfn offset in
    let slots = through_is_heard recording plan (grids only_port) sfn offset through in
    let block = is_block only_port plan number sendable.spare (number_fits sfn offset through.number through.within) in
    record {
      master = record {
        number = through.number;
        within = through.within;
        signals = through.signals.primary;
        identity = shown_identity_is_best OnePort recording plan.identity offset through.signals;
        broadcast =
            subst (λ (word : List Bool). SpeakOfWord (pbch_c_init plan.identity) (480 * (number % 4)) word (received_values (broadcast_slot recording plan.identity (start_of offset) 0)))
            (same_word only_port plan number)
            (slot_speaks (slot_grid (grids only_port) number 1) (broadcast_slot recording plan.identity (start_of offset) 0) (number % 4) (broadcast_word plan number)
            slots.master block.size (carries_word plan (grids only_port) slots.carries number));
      };
      system = system_heard recording plan (grids only_port) sfn offset sendable slots;
    }

-- ---- other premises

-- a receiver of any carrier hears the master information block of a cell whose signals are received where its values
-- have the signs of the codeword
pub shown_master_is_heard : (receiver : Receiver) (recording : List Sample) (plan : CellPlan) (sfn offset : ℕ) → sfn ≤ 1023 → offset < 19200 →
    ShowsSignals receiver.carrier recording plan.identity offset →
    SpeakOfWord (pbch_c_init plan.identity) (receiver.count * (number_at_start sfn offset % 4)) (word_of_master (master_of_plan receiver.carrier plan) (number_at_start sfn offset))
    (receiver.broadcast recording (sent_place plan.identity offset) 0) → IsMasterHeard receiver recording plan.identity (master_of_plan receiver.carrier plan) sfn offset
shown_master_is_heard receiver recording plan sfn offset known within shown speaks = record {
  number = known;
  within = within;
  signals = shown.primary;
  identity = shown_identity_is_best receiver.carrier recording plan.identity offset shown;
  broadcast = speaks;
}

-- a receiver of any carrier hears the master information block of a cell to which the recording is faithful where its
-- values have the signs of the codeword
pub faithful_master_is_heard : (receiver : Receiver) (recording : List Sample) (plan : CellPlan) (grids : Port → Elements) (sfn offset : ℕ) (gains : List Cpx) → plan.identity ≤ 503 →
    IsFaithfulBy receiver.carrier recording plan grids sfn offset gains →
    SpeakOfWord (pbch_c_init plan.identity) (receiver.count * (number_at_start sfn offset % 4)) (word_of_master (master_of_plan receiver.carrier plan) (number_at_start sfn offset))
    (receiver.broadcast recording (sent_place plan.identity offset) 0) → IsMasterHeard receiver recording plan.identity (master_of_plan receiver.carrier plan) sfn offset
faithful_master_is_heard receiver recording plan grids sfn offset gains known faithful speaks =
    shown_master_is_heard receiver recording plan sfn offset faithful.number faithful.within (signals_shown receiver.carrier recording plan grids sfn offset gains faithful known) speaks

pub faithful_cell_is_heard : FaithfulIsHeard one_port_receiver
faithful_cell_is_heard recording plan grids sfn offset gains sendable faithful =
    through_cell_is_heard recording plan grids sfn offset sendable (faithful_is_through recording plan grids sfn offset gains sendable.identity faithful)

pub fading_cell_is_heard : FadingIsHeard
fading_cell_is_heard quota bend recording plan grids sfn offset gains signal_gains room sendable fading =
    through_cell_is_heard recording plan grids sfn offset sendable (fading_is_through quota bend recording plan grids sfn offset gains signal_gains room sendable.identity fading)

pub echoed_cell_is_heard : EchoesAreHeard
echoed_cell_is_heard magnitudes paths recording plan grids sfn offset sendable echoed =
    through_cell_is_heard recording plan grids sfn offset sendable (echoes_are_through magnitudes paths recording plan grids sfn offset sendable.identity echoed)

-- ---- the list

hears_cells : HearsCells one_port_receiver
hears_cells = record {
  single = omega arith;
  taken = refl;
  answer = read_system_is_answer OnePort placed_values;
  heard = heard_system_is_read OnePort refl placed_values;
  nearest = nearest_system_is_read OnePort placed_values;
  through = through_cell_is_heard;
  faithful = faithful_cell_is_heard;
}

-- so the list holds them
pub holds_cells : HoldsCells one_port_receiver
holds_cells = heard_are_held one_port_receiver hears_cells
