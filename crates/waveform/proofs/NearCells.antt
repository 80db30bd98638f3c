-- A receiver hears each cell near whose waveform the recording is, whatever else its ports send.
use Rattle.std.proofs.Common.{◌≡◌, ℕ, zero, suc, ◌+◌, ◌*◌, ◌^◌, ◌%◌, ◌<◌, ◌≤◌, ◌⊎◌, Bool, true, false, arith, inl, inr, refl, ap, sym, subst, List, []}
use Rattle.finite.proofs.Lists.{values_below_at}
use Rattle.cs_num.specs.declared.Cpx.{Cpx}
use Rattle.cs_num.specs.declared.Sample.{Sample}
use Rattle.cs_num.specs.Complex.{square, value_at}
use Rattle.norms.specs.Magnitudes.{energy_below}
use Rattle.lte_types.specs.declared.carrier.Carrier.TheVariants.{OnePort, TwoPorts, LongPrefix, FourPorts}
use Rattle.lte_types.specs.Carrier.{ports_of}
use Rattle.lte_types.specs.Numerology.{normal, extended, useful_start}
use Rattle.lte_types.specs.Timing.{start_of, number_at_start}
use Rattle.crs.specs.Reference.{port_0, long_prefix}
use Rattle.grid_map.specs.Scrambling.{pbch_c_init}
use Rattle.observe.specs.Seen.{seen, seen_symbol}
use Rattle.soft_bits.specs.Soft.{SeenSlot, seen_at}
use Rattle.explain.specs.Frame.{frame_at, seen_slot}
use Rattle.explain.specs.Receiver.{one_port_receiver}
use Rattle.explain.specs.System.{even_frame}
use Rattle.budget.specs.Received.{IsSeenAs, IsSeenBy}
use Rattle.budget.specs.Through.{level, level_bounds}
use Rattle.cell_grid.specs.declared.antenna.Port.{Port}
use Rattle.cell_grid.specs.Block.{port_word, port_bit, port_point}
use Rattle.cell_grid.specs.Grid.{Elements}
use Rattle.cell_grid.specs.Ports.{port_by, only_port, first_port, long_port, port_of_four}
use Rattle.cell_plan.specs.declared.cell.CellPlan.{CellPlan}
use Rattle.clean_air.specs.Carried.{SpeakOfWord}
use Rattle.clean_air.specs.Faithful.{IsOfMaster, IsOfSystem, first_frame_of}
use Rattle.clean_air.specs.Heard.{sent_place}
use Rattle.clean_air.specs.Through.{IsFrameSlotThrough}
use Rattle.clean_air.specs.Values.{ArePatternSeen}
use Rattle.clean_air.proofs.FaithfulCells.{seen_slot_is_through}
use Rattle.clean_air.proofs.Held.{number_fits}
use Rattle.clean_air.proofs.HeldCells.{through_cell_is_heard, shown_master_is_heard}
use Rattle.clean_air.proofs.SentBlock.{is_block, same_word}
use Rattle.clean_air.proofs.SentSlots.{slot_grid, symbol_shown, references_stand, first_number}
use Rattle.clean_air.proofs.SoftValues.{place_shown, pilots_from_places}
use Rattle.clean_air.proofs.Speaking.{heard_bits_speak}
use Rattle.two_ports.specs.Entries.{two_ports_receiver}
use Rattle.two_ports.specs.Received.{PairsSpeak, SpeakWith}
use Rattle.two_ports.proofs.Master.{word_speaks}
use Rattle.two_ports.proofs.ReceivedPairs.{seen_pairs_speak}
use Rattle.two_ports.proofs.Senders.{pairing_of, carrier, sender, sounds}
use Rattle.two_ports.proofs.SentSystem.{system_heard}
use Rattle.two_ports.proofs.Slots.{references_alone}
use Rattle.two_ports.proofs.Values.{pair_values_speak}
use Rattle.four_ports.specs.Entries.{four_ports_receiver}
use Rattle.four_ports.proofs.Values.{pair_values_speak as four_values_speak}
use Rattle.long_prefix.specs.Entries.{long_slot, long_values, long_prefix_receiver}
use Rattle.long_prefix.proofs.Decoded.{values_heard}
use Rattle.long_prefix.proofs.SentSignals.{slot_row, points_stand, references_stand as long_references_stand}
use Rattle.waveform.specs.Waveform.{slot_quota, symbol_elements, IsNearWaveform}
use Rattle.waveform.specs.WaveformLaws.{WaveformIsSeen, NearWaveformIsHeard}
use Rattle.waveform.proofs.Sums.{energy_of_one}
use Rattle.waveform.proofs.SeenWaves.{waveform_of_one_is_seen, waveform_of_two_is_seen, waveform_of_four_is_seen}
use Rattle.waveform.proofs.NearSignals.{near_signals_shown}
use Rattle.waveform.proofs.NearSlots.{seen_same, seen_of_one, element_seen}

-- one gain sounds
sounds_of_one : (gains : ℕ → Cpx) → 2 ^ 28 ≤ square (gains 0) → 2 ^ 28 ≤ energy_below 1 gains
sounds_of_one gains least = subst (λ (n : ℕ). 2 ^ 28 ≤ n) (sym (energy_of_one gains)) least

-- ---- one port

module _ (recording : List Sample) (plan : CellPlan) (grids : Port → Elements) (sfn offset : ℕ) (gains : List Cpx) (near : IsNearWaveform OnePort recording plan grids sfn offset gains) where
  -- each slot that is decoded is received through one gain
  slot_through : (j slot : ℕ) → slot < 20 → IsOfMaster offset (first_frame_of offset + j) slot ⊎ IsOfSystem OnePort sfn offset (first_frame_of offset + j) slot →
      IsFrameSlotThrough recording plan.identity (grids only_port) sfn offset j slot
  unfolding seen_slot
  slot_through j slot few read =
      let gain : Cpx = value_at gains 0 in
      let number : ℕ = (number_at_start sfn offset + j) % 1024 in
      let f : ℕ = frame_at (start_of offset) j in
      record {
        bounds = level_bounds;
        square = square gain;
        channel = level gain;
        through = seen_slot_is_through gain (slot_grid (grids only_port) number slot) (seen_slot recording f slot plan.identity) pilots places;
      }
    where
      places : (symbol k : ℕ) → symbol < 7 → k < 72 → IsSeenAs 2316 (value_at gains 0) (slot_grid (grids only_port) ((number_at_start sfn offset + j) % 1024) slot symbol k)
          (seen_at (seen_slot recording (frame_at (start_of offset) j) slot plan.identity) symbol k)
      places symbol k inside low =
          subst (λ (z : Cpx). IsSeenAs 2316 (value_at gains 0) (slot_grid (grids only_port) ((number_at_start sfn offset + j) % 1024) slot symbol k) z)
          (place_shown recording (useful_start normal (frame_at (start_of offset) j) slot symbol) (seen_slot recording (frame_at (start_of offset) j) slot plan.identity) symbol k
          (symbol_shown recording plan.identity (frame_at (start_of offset) j) slot symbol inside) low)
          (seen_of_one 2316 (value_at gains) (λ p. symbol_elements normal (grids (port_by OnePort p)) ((number_at_start sfn offset + j) % 1024) slot symbol k) _
          (element_seen OnePort 2316 waveform_of_one_is_seen recording plan grids sfn offset gains near (sounds_of_one (value_at gains) near.gains_are.sounds) j slot symbol k few inside low read))

      pilots : ArePatternSeen 2316 port_0 (value_at gains 0) (seen_slot recording (frame_at (start_of offset) j) slot plan.identity)
      pilots = pilots_from_places 2316 port_0 7 (value_at gains 0) (slot_grid (grids only_port) ((number_at_start sfn offset + j) % 1024) slot)
          (seen_slot recording (frame_at (start_of offset) j) slot plan.identity) (omega arith) near.gains_are.sounds
          (λ i l. references_stand plan (grids only_port) (near.carries only_port (refl, omega arith)) ((number_at_start sfn offset + j) % 1024) slot i) places

pub near_cell_of_one_is_heard : NearWaveformIsHeard one_port_receiver
near_cell_of_one_is_heard recording plan grids sfn offset gains sendable near =
    through_cell_is_heard recording plan grids sfn offset sendable (record {
      number = near.number;
      within = near.within;
      carries = near.carries only_port (refl, omega arith);
      signals = near_signals_shown OnePort recording plan grids sfn offset gains near sendable.identity;
      master = slot_through recording plan grids sfn offset gains near 0 1 (omega arith) (inl (omega arith, refl));
      system = λ slot five. slot_through recording plan grids sfn offset gains near (even_frame (number_at_start sfn offset) 0) slot (omega (arith, five)) (inr (omega arith, five));
    })

-- ---- two and four ports

-- a port by its number in the scheme
pub sender_is : (four : Bool) (p : ℕ) → p < ports_of (carrier four) → port_by (carrier four) p ≡ sender four p
sender_is false zero l = refl
sender_is false (suc zero) l = refl
sender_is false (suc (suc p)) l = absurd (omega (arith, l))
sender_is true zero l = refl
sender_is true (suc zero) l = refl
sender_is true (suc (suc zero)) l = refl
sender_is true (suc (suc (suc zero))) l = refl
sender_is true (suc (suc (suc (suc p)))) l = absurd (omega (arith, l))

-- a resource element of a decoded slot is demodulated as the sum of all senders
senders_seen : (four : Bool) (most : ℕ) → WaveformIsSeen (ports_of (carrier four)) (slot_quota (ports_of (carrier four))) most → (recording : List Sample) (plan : CellPlan) (grids : Port → Elements) (sfn offset : ℕ)
    (gains : List Cpx) → IsNearWaveform (carrier four) recording plan grids sfn offset gains → (j slot symbol k : ℕ) → slot < 20 → symbol < 7 → k < 72 →
    IsOfMaster offset (first_frame_of offset + j) slot ⊎ IsOfSystem (carrier four) sfn offset (first_frame_of offset + j) slot →
    IsSeenBy (ports_of (carrier four)) most (value_at gains) (λ p. slot_grid (grids (port_by (carrier four) p)) ((number_at_start sfn offset + j) % 1024) slot symbol k)
    (seen recording (useful_start normal (frame_at (start_of offset) j) slot symbol) k)
senders_seen false most law recording plan grids sfn offset gains near j slot symbol k few inside low read =
    element_seen TwoPorts most law recording plan grids sfn offset gains near (sounds false gains near.gains_are) j slot symbol k few inside low read
senders_seen true most law recording plan grids sfn offset gains near j slot symbol k few inside low read =
    element_seen FourPorts most law recording plan grids sfn offset gains near (sounds true gains near.gains_are) j slot symbol k few inside low read

module _ (four : Bool) (most : ℕ) (law : WaveformIsSeen (ports_of (carrier four)) (slot_quota (ports_of (carrier four))) most) (recording : List Sample) (plan : CellPlan) (grids : Port → Elements) (sfn offset : ℕ)
    (gains : List Cpx) (near : IsNearWaveform (carrier four) recording plan grids sfn offset gains) where
  -- the pairs of a decoded slot have soft values with the signs of their bits
  pairs_speak : SpeakWith (value_at gains) (pairing_of four) most 1 → (j slot : ℕ) → slot < 20 →
      IsOfMaster offset (first_frame_of offset + j) slot ⊎ IsOfSystem (carrier four) sfn offset (first_frame_of offset + j) slot →
      PairsSpeak (pairing_of four) 1 (λ p. slot_grid (grids (sender four p)) ((number_at_start sfn offset + j) % 1024) slot) (seen_slot recording (frame_at (start_of offset) j) slot plan.identity)
  pairs_speak speak j slot few read =
      let number : ℕ = (number_at_start sfn offset + j) % 1024 in
      let f : ℕ = frame_at (start_of offset) j in
      let sent : ℕ → ℕ → ℕ → Cpx = λ p. slot_grid (grids (sender four p)) number slot in
      let shown : SeenSlot = seen_slot recording f slot plan.identity in
      seen_pairs_speak (pairing_of four) most 1 (value_at gains) speak sent shown (record {
        sounds = sounds four gains near.gains_are;
        place = λ symbol k inside low.
            subst (λ (z : Cpx). IsSeenBy (ports_of (carrier four)) most (value_at gains) (λ p. sent p symbol k) z)
            (place_shown recording (useful_start normal f slot symbol) shown symbol k (symbol_shown recording plan.identity f slot symbol inside) low)
            (seen_same (ports_of (carrier four)) most (value_at gains) (λ p. slot_grid (grids (port_by (carrier four) p)) number slot symbol k) (λ p. sent p symbol k) _
            (λ p l. ap (λ (port : Port). slot_grid (grids port) number slot symbol k) (sender_is four p l))
            (senders_seen four most law recording plan grids sfn offset gains near j slot symbol k few inside low read));
        pilots = references_alone four plan grids near.carries recording f number slot;
      })

pub near_cell_of_two_is_heard : NearWaveformIsHeard two_ports_receiver
near_cell_of_two_is_heard recording plan grids sfn offset gains sendable near =
    let number : ℕ = number_at_start sfn offset in
    let speak = pairs_speak false 1464 waveform_of_two_is_seen recording plan grids sfn offset gains near (pair_values_speak (value_at gains)) in
    record {
      master = shown_master_is_heard two_ports_receiver recording plan sfn offset near.number near.within (near_signals_shown TwoPorts recording plan grids sfn offset gains near sendable.identity)
          (subst (λ (word : List Bool). SpeakOfWord (pbch_c_init plan.identity) (480 * (number % 4)) word (two_ports_receiver.broadcast recording (sent_place plan.identity offset) 0))
          (same_word first_port plan number)
          (word_speaks false recording plan grids sfn offset near.carries (speak 0 1 (omega arith) (inl (omega arith, refl))) (number_fits sfn offset near.number near.within) sendable.spare));
      system = system_heard recording plan grids sfn offset sendable near.carries
          (λ s half. speak (even_frame (number_at_start sfn offset) 0) s (omega (arith, half)) (inr (omega arith, half)));
    }

pub near_cell_of_four_is_heard : NearWaveformIsHeard four_ports_receiver
near_cell_of_four_is_heard recording plan grids sfn offset gains known near =
    let number : ℕ = number_at_start sfn offset in
    let speak = pairs_speak true 900 waveform_of_four_is_seen recording plan grids sfn offset gains near (four_values_speak (value_at gains) near.gains_are.paired) in
    record {
      master = shown_master_is_heard four_ports_receiver recording plan sfn offset near.number near.within (near_signals_shown FourPorts recording plan grids sfn offset gains near known.identity)
          (subst (λ (word : List Bool). SpeakOfWord (pbch_c_init plan.identity) (480 * (number % 4)) word (four_ports_receiver.broadcast recording (sent_place plan.identity offset) 0))
          (same_word (port_of_four 0) plan number)
          (word_speaks true recording plan grids sfn offset near.carries (speak 0 1 (omega arith) (inl (omega arith, refl))) (number_fits sfn offset near.number near.within) known.spare));
      system = tt;
    }

-- ---- the extended prefix

module _ (recording : List Sample) (plan : CellPlan) (grids : Port → Elements) (sfn offset : ℕ) (gains : List Cpx) (near : IsNearWaveform LongPrefix recording plan grids sfn offset gains) where
  -- the elements of the broadcast channel's slot
  abbrev rows : ℕ → ℕ → Cpx
  rows = slot_row (grids long_port) (number_at_start sfn offset)

  -- the slot as it is observed
  abbrev shown : SeenSlot
  shown = long_slot recording plan.identity (start_of offset) 0

  long_places_seen : (symbol k : ℕ) → symbol < 6 → k < 72 → IsSeenAs 2316 (value_at gains 0) (rows symbol k) (seen_at shown symbol k)
  unfolding long_slot
  long_places_seen symbol k inside low =
      let start : ℕ → ℕ = useful_start extended (frame_at (start_of offset) 0) 1 in
      subst (λ (z : Cpx). IsSeenAs 2316 (value_at gains 0) (rows symbol k) z)
      (place_shown recording (start symbol) shown symbol k (values_below_at (λ l. seen_symbol recording (start l)) 6 symbol [] inside) low)
      (subst (λ (n : ℕ). IsSeenAs 2316 (value_at gains 0) (slot_row (grids long_port) n symbol k) (seen recording (start symbol) k)) (first_number sfn offset near.number)
      (seen_of_one 2316 (value_at gains) (λ p. slot_row (grids (port_by LongPrefix p)) ((number_at_start sfn offset + 0) % 1024) symbol k) _
      (element_seen LongPrefix 2316 waveform_of_one_is_seen recording plan grids sfn offset gains near (sounds_of_one (value_at gains) near.gains_are.sounds) 0 1 symbol k (omega arith) inside low (inl (omega arith, refl)))))

  long_pilots_seen : ArePatternSeen 2316 long_prefix (value_at gains 0) shown
  unfolding long_slot
  long_pilots_seen =
      pilots_from_places 2316 long_prefix 6 (value_at gains 0) rows shown (omega arith) near.gains_are.sounds
      (λ i l. long_references_stand plan (grids long_port) (near.carries long_port (refl, omega arith)) (number_at_start sfn offset) i) long_places_seen

pub near_cell_of_long_is_heard : NearWaveformIsHeard long_prefix_receiver
unfolding long_slot port_point port_bit
near_cell_of_long_is_heard recording plan grids sfn offset gains known near =
    let number : ℕ = number_at_start sfn offset in
    let slot : SeenSlot = long_slot recording plan.identity (start_of offset) 0 in
    let size = (is_block long_port plan number known.spare (number_fits sfn offset near.number near.within)).size in
    record {
      master = shown_master_is_heard long_prefix_receiver recording plan sfn offset near.number near.within (near_signals_shown LongPrefix recording plan grids sfn offset gains near known.identity)
          (subst (λ (word : List Bool). SpeakOfWord (pbch_c_init plan.identity) (432 * (number % 4)) word (long_values slot)) (same_word long_port plan number)
          (heard_bits_speak 1 432 (pbch_c_init plan.identity) (432 * (number % 4)) (port_word long_port plan number) (long_values slot) (omega arith) (omega (arith, size))
          (values_heard (value_at gains 0) (slot_row (grids long_port) number) slot (long_pilots_seen recording plan grids sfn offset gains near) (long_places_seen recording plan grids sfn offset gains near)
          (port_bit long_port plan number) (points_stand plan (grids long_port) (near.carries long_port (refl, omega arith)) number))));
      system = tt;
    }
