-- Slots of a recording that is faithful to a one-port cell, whatever else the cell sends: each slot that is read is
-- received as it was sent, and the broadcast channel carries the cell's word.
use Rattle.std.proofs.Common.{◌≡◌, ℕ, zero, suc, ◌+◌, ◌-◌, ◌*◌, ◌/◌, ◌%◌, ◌^◌, ◌<◌, ◌≤◌, arith, refl, ap, sym, subst, ◌∙◌, List, [], ◌∷◌, nat_eq, mod-lt, Bool, true, false, Some, None}
use Rattle.std.specs.Prelude.{if◌then◌else◌, ◌&&◌, slice_index_or}
use Rattle.std.proofs.lemmas.Bool.Decides.{nat_tests}
use Rattle.cs_num.specs.declared.Cpx.{Cpx}
use Rattle.cs_num.specs.declared.Sample.{Sample}
use Rattle.cs_num.specs.Complex.{times, minus, square, value_at}
use Rattle.norms.proofs.Cauchy.{energy_same}
use Rattle.fold128.specs.Symbol.{useful_at}
use Rattle.finite.proofs.Lists.{values_below_at}
use Rattle.crs.specs.Reference.{port_0, is_reference, is_second_reference, is_upper_reference, first_subcarrier, pattern_reference, reference, reference_c_init, reference_at}
use Rattle.crs.proofs.Spacing.{lower_other}
use Rattle.observe.specs.Seen.{seen_symbol}
use Rattle.sync_seq.specs.Middle.{is_middle}
use Rattle.soft_bits.specs.Soft.{pattern_symbol, pattern_sent, pilot_symbol, pilot_subcarrier, pilot_sent}
use Rattle.grid_map.specs.declared.Place.{Place}
use Rattle.grid_map.specs.Place.{place}
use Rattle.grid_map.specs.Broadcast.{pbch_places, pbch_place, is_pbch, pbch_index}
use Rattle.grid_map.specs.Scrambling.{pbch_c_init}
use Rattle.grid_map.proofs.Points.{length-pbch_places, places_inside, index_of_place}
use Rattle.cell_plan.specs.declared.cell.CellPlan.{CellPlan}
use Rattle.cell_grid.specs.declared.antenna.Port.{Port}
use Rattle.lte_types.specs.declared.carrier.Carrier.TheVariants.{OnePort}
use Rattle.cell_grid.specs.Ports.{only_port, port_symbols, sent_point, is_own_reference, port_reference}
use Rattle.cell_grid.specs.Block.{port_point, port_bit, broadcast_word}
use Rattle.cell_grid.specs.Grid.{is_synchronised, has_broadcast, port_element, element}
use Rattle.cell_grid.specs.Grid.{Elements}
use Rattle.clean_air.specs.Load.{CarriesPlan, IsLoaded, received_from}
use Rattle.clean_air.specs.Faithful.{IsLookedAt, IsFaithfulBy, errors_from, first_frame_of}
use Rattle.clean_air.specs.Through.{slot_elements}
use Rattle.cell_grid.specs.Rows.{port_reference_if}
use Rattle.cell_grid.proofs.Broadcast.{broadcast_there, broadcast_number}
use Rattle.cell_grid.proofs.Elements.{is_zeroth, normal_reference, own_sent, none_of_four, element_of_reference, element_of_channel, channel_of_broadcast}
use Rattle.clean_air.proofs.Carrying.{of_own_reference, of_broadcast}
use Rattle.lte_types.specs.Numerology.{normal, useful_start}
use Rattle.lte_types.specs.Timing.{start_of, number_at_start}
use Rattle.explain.specs.Frame.{IsWhole, frame_at, seen_slot}
use Rattle.budget.specs.Received.{in_parts, off_by, IsReceived, samples_from}
use Rattle.budget.proofs.Parts.{square_in_parts}
use Rattle.budget.proofs.Seen.{quiet_amplitude_is_seen_in_recording}
use Rattle.clean_air.specs.Values.{ArePilotsSeen, IsPatternReceived, IsSlotReceived}
use Rattle.clean_air.specs.Carried.{CarryWord}
use Rattle.clean_air.proofs.SoftValues.{pattern_pilots_seen}
use Rattle.clean_air.proofs.LoadedErrors.{loaded_has_little_errors}
use Rattle.clean_air.proofs.SentSymbols.{symbol_received, first_frame}

-- symbols of slot 0 to 19 of the frame with this number
abbrev pub slot_grid : Elements → ℕ → ℕ → ℕ → ℕ → Cpx
slot_grid = slot_elements

-- ---- the reference signals

-- each pilot is at a reference position of symbol 0 or 4
record IsPilotPlace (identity symbol k : ℕ) : Type 0 where
  is : is_reference identity symbol k ≡ true
  inside : symbol < 7

other_symbol : (identity i k : ℕ) → k ≡ pilot_subcarrier identity i → is_reference identity 0 k ≡ false → is_reference identity 4 k ≡ true
unfolding is_reference first_subcarrier
other_symbol identity i k e none = lower_other identity k (omega (arith, e)) none

pilot_place : (identity i : ℕ) → IsPilotPlace identity (pilot_symbol identity i) (pilot_subcarrier identity i)
unfolding pattern_symbol is_reference first_subcarrier
pilot_place identity i = settle (is_reference identity 0 (pilot_subcarrier identity i)) refl
  where
    settle : (b : Bool) → is_reference identity 0 (pilot_subcarrier identity i) ≡ b →
        IsPilotPlace identity (if b then 0 else 4) (pilot_subcarrier identity i)
    settle true e = record { is = e; inside = omega arith }
    settle false e = record { is = other_symbol identity i (pilot_subcarrier identity i) refl e; inside = omega arith }

own_here : (identity slot l k : ℕ) → is_reference identity l k ≡ true → is_own_reference only_port identity slot l k ≡ true
own_here identity slot l k is = is_zeroth identity l k ∙ is

reference_here : (plan : CellPlan) (number slot l k : ℕ) → l < 7 → is_reference plan.identity l k ≡ true → slot_grid (element plan) number slot l k ≡ reference_at plan.identity slot l k
reference_here plan number slot l k inside is =
    let symbol : (7 * (slot % 2) + l) % 7 ≡ l = omega (arith, inside) in
    let place : 2 * (slot / 2) + (7 * (slot % 2) + l) / 7 ≡ slot = omega (arith, inside) in
    let there : port_reference_if only_port plan.identity (2 * (slot / 2) + (7 * (slot % 2) + l) / 7) ((7 * (slot % 2) + l) % 7) k ≡ Some (port_reference only_port plan.identity slot l k) =
    rw (symbol, place) (own_sent only_port plan.identity slot l k (own_here plan.identity slot l k is)) in
    sym (element_of_reference only_port plan number (slot / 2) (7 * (slot % 2) + l) k _ there) ∙ normal_reference plan.identity slot l k

reference_carried : (plan : CellPlan) (grid : Elements) → CarriesPlan only_port plan grid → (number slot l k : ℕ) → l < 7 → is_reference plan.identity l k ≡ true →
    slot_grid grid number slot l k ≡ slot_grid (element plan) number slot l k
reference_carried plan grid carries number slot l k inside is =
    let symbol : (7 * (slot % 2) + l) % 7 ≡ l = omega (arith, inside) in
    of_own_reference only_port plan grid carries number (slot / 2) (7 * (slot % 2) + l) k (rw symbol (own_here plan.identity (2 * (slot / 2) + (7 * (slot % 2) + l) / 7) l k is))

pub references_stand : (plan : CellPlan) (grid : Elements) → CarriesPlan only_port plan grid → (number slot i : ℕ) →
    slot_grid grid number slot (pilot_symbol plan.identity i) (pilot_subcarrier plan.identity i) ≡ pilot_sent plan.identity slot i
unfolding pattern_sent pattern_reference reference_at reference reference_c_init
references_stand plan grid carries number slot i =
    let p = pilot_place plan.identity i in
    reference_carried plan grid carries number slot (pilot_symbol plan.identity i) (pilot_subcarrier plan.identity i) p.inside p.is
    ∙ reference_here plan number slot (pilot_symbol plan.identity i) (pilot_subcarrier plan.identity i) p.inside p.is

-- ---- the broadcast channel's resource elements

record IsBroadcastPlace (identity symbol k : ℕ) : Type 0 where
  low : 7 ≤ symbol
  high : symbol < 11
  free : is_reference identity (symbol % 7) k ≡ false
  second_free : is_second_reference identity (symbol % 7) k ≡ false
  third_free : (slot : ℕ) → is_upper_reference 2 identity slot (symbol % 7) k ≡ false
  fourth_free : (slot : ℕ) → is_upper_reference 3 identity slot (symbol % 7) k ≡ false
  here : is_pbch identity (place symbol k) ≡ true

broadcast_place : (identity : ℕ) (p : Place) → is_pbch identity p ≡ true → IsBroadcastPlace identity p.symbol p.k
unfolding is_pbch is_reference first_subcarrier is_second_reference is_upper_reference
broadcast_place identity p e = record {
  low = grind (arith, nat_tests);
  high = grind (arith, nat_tests);
  free = grind (arith, nat_tests);
  second_free = grind (arith, nat_tests);
  third_free = λ slot. grind (arith, nat_tests);
  fourth_free = λ slot. grind (arith, nat_tests);
  here = e;
}

not_there : (symbol row : ℕ) (a : Bool) → 7 ≤ symbol → row < 7 → (nat_eq symbol row && a) ≡ false
not_there symbol row a low small = let e : nat_eq symbol row ≡ false = grind (arith, nat_tests) in rw e refl

-- no port has a reference signal in the broadcast channel's resource elements
upper_free : (number identity slot symbol k : ℕ) → is_upper_reference 2 identity slot symbol k ≡ false → is_upper_reference 3 identity slot symbol k ≡ false → is_upper_reference number identity slot symbol k ≡ false
unfolding is_upper_reference
upper_free number identity slot symbol k e f = by (number % 2) (mod-lt number (omega arith))
  where
    by : (n : ℕ) → n < 2 → (nat_eq symbol 1 && nat_eq (k % 6) ((3 * n + 3 * (slot % 2) + identity) % 6)) ≡ false
    by zero inside = e
    by (suc zero) inside = f
    by (suc (suc n)) inside = absurd (omega (arith, inside))

none_there : (port : Port) → port_symbols port ≡ 7 → (identity slot symbol k : ℕ) → IsBroadcastPlace identity symbol k → port_reference_if port identity slot (symbol % 7) k ≡ None
none_there port normal identity slot symbol k at =
    none_of_four port identity slot (symbol % 7) k normal at.free at.second_free (λ number. upper_free number identity slot (symbol % 7) k (at.third_free slot) (at.fourth_free slot))

-- with the normal cyclic prefix, for any port
module _ (port : Port) (normal : port_symbols port ≡ 7) where
  is_there : (identity symbol k : ℕ) → IsBroadcastPlace identity symbol k → has_broadcast port identity 0 symbol k ≡ true
  is_there identity symbol k at = let low = at.low in let high = at.high in broadcast_there port normal identity symbol k low (omega (arith, high)) at.here

  point_here : (plan : CellPlan) (number symbol k i : ℕ) → IsBroadcastPlace plan.identity symbol k → i ≡ pbch_index plan.identity (place symbol k) →
      port_element port plan number 0 symbol k ≡ sent_point port (port_point port plan number) i
  point_here plan number symbol k i at e =
      let seven = sym normal in
      element_of_channel port plan number 0 symbol k
      (subst (λ (n : ℕ). port_reference_if port plan.identity (2 * 0 + symbol / n) (symbol % n) k ≡ None) seven (none_there port normal plan.identity (2 * 0 + symbol / 7) symbol k at))
      (subst (λ (n : ℕ). is_synchronised (n - 1) 0 symbol k ≡ false) seven (not_there symbol 6 (is_middle k) at.low (omega arith)))
      (subst (λ (n : ℕ). is_synchronised (n - 2) 0 symbol k ≡ false) seven (not_there symbol 5 (is_middle k) at.low (omega arith)))
      ∙ channel_of_broadcast port plan number 0 symbol k (is_there plan.identity symbol k at)
      ∙ ap (sent_point port (port_point port plan number)) (broadcast_number port normal plan.identity symbol k ∙ sym e)

  pub points_stand : (plan : CellPlan) (grid : Elements) → CarriesPlan port plan grid → (number i : ℕ) → i < 240 →
      slot_grid grid number 1 ((pbch_place plan.identity i).symbol % 7) (pbch_place plan.identity i).k ≡ sent_point port (port_point port plan number) i
  points_stand plan grid carries number i inside =
      let p = pbch_place plan.identity i in
      let is = places_inside plan.identity i inside in
      let at = broadcast_place plan.identity p is in
      let symbol : 7 + p.symbol % 7 ≡ p.symbol = omega (arith, at.low, at.high) in
      ap (λ n. grid number 0 n p.k) symbol ∙ of_broadcast port plan grid carries number 0 p.symbol p.k (is_there plan.identity p.symbol p.k at)
      ∙ point_here plan number p.symbol p.k i at (sym (index_of_place plan.identity i inside))

pub carries_word : (plan : CellPlan) (grid : Elements) → CarriesPlan only_port plan grid → (number : ℕ) →
    CarryWord (slot_grid grid number 1) (pbch_places plan.identity) (pbch_c_init plan.identity) (480 * (number % 4)) (broadcast_word plan number)
unfolding pbch_place port_point port_bit
carries_word plan grid carries number i inside = points_stand only_port refl plan grid carries number i (omega (arith, inside, length-pbch_places plan.identity))

-- ---- the slots

-- the number of frame j of the recording, and its start in the sent signal
pub record IsFrameOf (sfn offset j : ℕ) (n : ℕ) : Type 0 where
  pub place : frame_at (start_of offset) j + offset ≡ 19200 * n
  pub number : (sfn + n) % 1024 ≡ (number_at_start sfn offset + j) % 1024

pub frame_is : (sfn offset j : ℕ) → sfn ≤ 1023 → offset < 19200 → IsFrameOf sfn offset j (first_frame_of offset + j)
frame_is sfn offset j known within =
    let first = first_frame sfn offset known within in
    record { place = omega (arith, first.place); number = omega (arith, first.number) }

pub first_number : (sfn offset : ℕ) → sfn ≤ 1023 → (number_at_start sfn offset + 0) % 1024 ≡ number_at_start sfn offset
first_number sfn offset known = grind (arith, nat_tests)

-- a symbol whose error energy is at most `quota` times the gain's square is received
pub symbol_with_errors : (quota : ℕ) (recording : List Sample) (grids : Port → Elements) (sfn offset : ℕ) (gains : List Cpx) → sfn ≤ 1023 → offset < 19200 → 2 ^ 28 ≤ square (value_at gains 0) →
    (j slot l : ℕ) → slot < 20 → l < 7 →
    errors_from OnePort recording grids sfn offset gains (useful_start normal (frame_at (start_of offset) j) slot l) ≤ quota * square (value_at gains 0) →
    IsReceived quota (value_at gains 0) (slot_grid (grids only_port) ((number_at_start sfn offset + j) % 1024) slot l)
    (samples_from recording (useful_start normal (frame_at (start_of offset) j) slot l))
symbol_with_errors quota recording grids sfn offset gains known within sounds j slot l few inside quiet =
    let grid : Elements = grids only_port in
    let gain : Cpx = value_at gains 0 in
    let start : ℕ = useful_start normal (frame_at (start_of offset) j) slot l in
    let n : ℕ = first_frame_of offset + j in
    let frame = frame_is sfn offset j known within in
    subst (λ m. IsReceived quota gain (slot_grid grid m slot l) (samples_from recording start)) frame.number (record {
      sounds = sounds;
      quiet = subst (λ (energy : ℕ). energy ≤ quota * square gain)
          (energy_same 128 (off_by (samples_from recording start) (λ k. received_from OnePort grids sfn offset gains (start + k)))
          (off_by (samples_from recording start) (λ k. times gain (useful_at (slot_grid grid ((sfn + n) % 1024) slot l) k)))
          (λ k low. ap (minus (in_parts (samples_from recording start k))) (symbol_received OnePort grids sfn offset gains n slot l start few inside (omega (arith, frame.place)) k low)))
          quiet;
    })

-- the observed symbol of a slot
pub symbol_shown : (recording : List Sample) (identity f slot l : ℕ) → l < 7 → slice_index_or (seen_slot recording f slot identity).symbols l [] ≡ seen_symbol recording (useful_start normal f slot l)
unfolding seen_slot
symbol_shown recording identity f slot l inside = values_below_at (λ symbol. seen_symbol recording (useful_start normal f slot symbol)) 7 l [] inside

-- a slot is received if the error energy of each of its symbols is at most `quota` times the gain's square
pub slot_with_errors : (quota : ℕ) (recording : List Sample) (plan : CellPlan) (grids : Port → Elements) (sfn offset : ℕ) (gains : List Cpx) → sfn ≤ 1023 → offset < 19200 → CarriesPlan only_port plan (grids only_port) →
    2 ^ 28 ≤ square (value_at gains 0) → (j slot : ℕ) → slot < 20 →
    ((l : ℕ) → l < 7 → errors_from OnePort recording grids sfn offset gains (useful_start normal (frame_at (start_of offset) j) slot l) ≤ quota * square (value_at gains 0)) →
    IsPatternReceived quota port_0 7 recording (useful_start normal (frame_at (start_of offset) j) slot) (slot_grid (grids only_port) ((number_at_start sfn offset + j) % 1024) slot)
    (seen_slot recording (frame_at (start_of offset) j) slot plan.identity)
unfolding seen_slot
slot_with_errors quota recording plan grids sfn offset gains known within carries sounds j slot few quiet =
    let number : ℕ = (number_at_start sfn offset + j) % 1024 in
    record {
      gain = value_at gains 0;
      seen = λ l inside. symbol_shown recording plan.identity (frame_at (start_of offset) j) slot l inside;
      amplitudes = λ l inside. carries.small number (slot / 2) (7 * (slot % 2) + l);
      received = λ l inside. symbol_with_errors quota recording grids sfn offset gains known within sounds j slot l few inside (quiet l inside);
      references = λ i inside. references_stand plan (grids only_port) carries number slot i;
    }

module _ (recording : List Sample) (plan : CellPlan) (grids : Port → Elements) (sfn offset : ℕ) (gains : List Cpx) (faithful : IsFaithfulBy OnePort recording plan grids sfn offset gains) where
  -- a slot is received if all its symbols are read
  pub each_slot_received : (j slot : ℕ) → slot < 20 →
      ((l : ℕ) → l < 7 → IsLookedAt OnePort sfn offset (first_frame_of offset + j) slot l (useful_start normal (frame_at (start_of offset) j) slot l)) →
      IsSlotReceived recording (useful_start normal (frame_at (start_of offset) j) slot) (slot_grid (grids only_port) ((number_at_start sfn offset + j) % 1024) slot)
      (seen_slot recording (frame_at (start_of offset) j) slot plan.identity)
  each_slot_received j slot few looked =
      slot_with_errors 1800 recording plan grids sfn offset gains faithful.number faithful.within (faithful.carries only_port (refl, omega arith)) faithful.gains_are.sounds j slot few
      (λ l inside. let frame = frame_is sfn offset j faithful.number faithful.within in
      faithful.near (first_frame_of offset + j) slot l (useful_start normal (frame_at (start_of offset) j) slot l) few inside (omega (arith, frame.place)) (looked l inside))

-- in a recording that is clean for the cell, the pilots of each whole slot are observed with smaller errors, since the
-- errors have less energy
pub loaded_pilots_seen : (recording : List Sample) (plan : CellPlan) (grid : Elements) (sfn offset : ℕ) (gain : Cpx) (eps : ℕ) → IsLoaded recording plan grid sfn offset gain eps →
    (j slot : ℕ) → IsWhole recording (start_of offset) j → slot < 20 → ArePilotsSeen 1920 (in_parts gain) (seen_slot recording (frame_at (start_of offset) j) slot plan.identity)
unfolding slot_with_errors
loaded_pilots_seen recording plan grid sfn offset gain eps clean j slot whole few =
    pattern_pilots_seen 1024 1920 quiet_amplitude_is_seen_in_recording port_0 7 recording start (slot_grid grid ((number_at_start sfn offset + j) % 1024) slot)
    (seen_slot recording (frame_at (start_of offset) j) slot plan.identity) received (omega arith)
  where
    start : ℕ → ℕ
    start = useful_start normal (frame_at (start_of offset) j) slot

    some : (n p : ℕ) → p ≡ 268435456 * n → 1 ≤ n → 2 ^ 28 ≤ p
    some n p same least = omega (arith, same, least)

    quiet : (n p q energy : ℕ) → p ≡ 268435456 * n → q ≤ 4 * n → energy ≤ 2 ^ 36 * q → energy ≤ 1024 * p
    quiet n p q energy same bound small = omega (arith, same, bound, small)

    received : IsPatternReceived 1024 port_0 7 recording start (slot_grid grid ((number_at_start sfn offset + j) % 1024) slot) (seen_slot recording (frame_at (start_of offset) j) slot plan.identity)
    received = slot_with_errors 1024 recording plan (λ port. grid) sfn offset (in_parts gain ∷ []) clean.number clean.within (clean.carries only_port (refl, omega arith))
        (some (square gain) (square (in_parts gain)) (square_in_parts gain) clean.gains_are.least) j slot few
        (λ l inside. quiet (square gain) (square (in_parts gain)) (eps * eps) (errors_from OnePort recording (λ port. grid) sfn offset (in_parts gain ∷ []) (start l)) (square_in_parts gain) clean.bound
        (loaded_has_little_errors OnePort recording plan (λ port. grid) sfn offset (gain ∷ []) eps (start l) clean (omega (arith, whole, few, inside))))
