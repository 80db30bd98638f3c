-- The system information of a cell whose pairs have soft values with the signs of their bits: the values of the first
-- frame of even number have the signs of the plan's bits.
use Rattle.std.proofs.Common.{◌≡◌, ℕ, zero, suc, ◌+◌, ◌*◌, ◌/◌, ◌%◌, ◌<◌, ◌≤◌, inl, inr, Bool, true, false, List, length, get_or, pos, nat_eq, nat_lt, ℤ, refl, ap, ap₂, sym, subst, ◌∙◌, arith}
use Rattle.std.specs.Prelude.{if◌then◌else◌}
use Rattle.std.proofs.lemmas.Bool.{cases_lt, lt-ltb, le-ltb}
use Rattle.cs_num.specs.declared.Sample.{Sample}
use Rattle.cs_bits.proofs.Signs.{supports-speaks}
use Rattle.grid_map.specs.declared.Place.{Place}
use Rattle.grid_map.specs.Place.{place}
use Rattle.grid_map.specs.Control.{pcfich_places}
use Rattle.grid_map.specs.Scrambling.{pcfich_c_init, pdcch_c_init, pdsch_c_init, indicator_bit}
use Rattle.grid_map.specs.Shared.{shared_place_of}
use Rattle.grid_map.proofs.Apart.{IsInRegion}
use Rattle.grid_map.proofs.Pieces.{length-pcfich_places}
use Rattle.grid_map.proofs.Together.{pair_in_one_symbol}
use Rattle.lte_types.specs.Timing.{start_of, number_at_start}
use Rattle.dci.specs.Fields.{system_information_rnti}
use Rattle.soft_bits.specs.Pairs.{over_two, pair_at, paired_by}
use Rattle.soft_bits.specs.Soft.{SeenSlot}
use Rattle.pcfich.specs.Indicator.{Speak}
use Rattle.soft_bits.specs.Places.{in_subframe, descrambled}
use Rattle.lte_types.specs.declared.carrier.Carrier.TheVariants.{TwoPorts}
use Rattle.pcfich.specs.Values.{indicator_values_by}
use Rattle.pdcch.specs.Candidate.{stream_values_by, candidate_values_by}
use Rattle.pdsch.specs.Values.{shared_values_by}
use Rattle.sib1_reader.specs.Subframe.{subframe_by}
use Rattle.cell_grid.specs.declared.antenna.Port.{Port}
use Rattle.lte_types.specs.Carrier.{ports_of}
use Rattle.cell_grid.specs.Ports.{first_port, second_port}
use Rattle.cell_plan.specs.declared.cell.CellPlan.{CellPlan}
use Rattle.cell_grid.specs.Ports.{IsPortOf, has_control, sent_point}
use Rattle.cell_grid.specs.Block.{coded_bit}
use Rattle.cell_grid.specs.Points.{point_of, scrambled}
use Rattle.cell_grid.specs.Control.{grant_of, control_places, control_word, indicator_point, control_point}
use Rattle.cell_grid.specs.Shared.{assigned_places, shared_bit, shared_point}
use Rattle.cell_grid.specs.Grid.{Elements}
use Rattle.cell_grid.proofs.SystemPlaces.{control_indexed, assigned_bits_are, assigned_size, indicator_stands, control_stands, assigned_stands}
use Rattle.clean_air.proofs.Carrying.{indicator_carried, control_carried, shared_carried}
use Rattle.explain.specs.Frame.{frame_at, seen_slot}
use Rattle.explain.specs.System.{even_frame}
use Rattle.explain.proofs.Information.{even_number}
use Rattle.clean_air.specs.Carried.{AreHeard}
use Rattle.clean_air.specs.Grant.{grant_word}
use Rattle.clean_air.specs.Words.{SpeakInOrder}
use Rattle.clean_air.specs.Heard.{IsSystemHeard}
use Rattle.clean_air.proofs.Controls.{grant_parts}
use Rattle.clean_air.proofs.Speaking.{descrambled_bits_are_heard}
use Rattle.two_tx.specs.Plan.{IsSendableOfTwo}
use Rattle.clean_air.specs.Load.{CarriesPlan}
use Rattle.two_ports.specs.Received.{PairsSpeak}
use Rattle.two_ports.proofs.Heard.{SpeakAs, paired_heard, paired_same}
use Rattle.clean_air.proofs.SentSlots.{slot_grid}
use Rattle.two_ports.proofs.Senders.{sender, is_sender, pair_carried}

-- ---- a frame

module _ (recording : List Sample) (plan : CellPlan) (grids : Port → Elements) (sfn offset : ℕ) (sendable : IsSendableOfTwo plan) (carries_all : (port : Port) → IsPortOf TwoPorts port → CarriesPlan port plan (grids port))
    (speak : (s : ℕ) → s / 2 ≡ 5 → PairsSpeak over_two 1 (λ p. slot_grid (grids (sender false p)) ((number_at_start sfn offset + even_frame (number_at_start sfn offset) 0) % 1024) s)
    (seen_slot recording (frame_at (start_of offset) (even_frame (number_at_start sfn offset) 0)) s plan.identity)) where
  abbrev port : ℕ → Port
  port = sender false

  abbrev j : ℕ
  j = even_frame (number_at_start sfn offset) 0

  abbrev number : ℕ
  number = (number_at_start sfn offset + j) % 1024

  is_even : number % 2 ≡ 0
  is_even = even_number (number_at_start sfn offset) 0

  -- slot 10 or 11, the slots of subframe 5
  abbrev slot : ℕ → SeenSlot
  slot s = seen_slot recording (frame_at (start_of offset) j) s plan.identity

  -- the slot that contains a resource element
  abbrev slot_at : Place → SeenSlot
  slot_at = in_subframe (slot 10) (slot 11)

  slot_is : (p : Place) → p.symbol < 14 → slot_at p ≡ slot (10 + p.symbol / 7)
  slot_is p few = elim (cases_lt p.symbol 7) [
    | inl low ↦
        let e : nat_lt p.symbol 7 ≡ true = lt-ltb p.symbol 7 low in
        let n : 10 + p.symbol / 7 ≡ 10 = omega (arith, low) in
        rw (e, n) refl
    | inr high ↦
        let e : nat_lt p.symbol 7 ≡ false = le-ltb p.symbol 7 high in
        let n : 10 + p.symbol / 7 ≡ 11 = omega (arith, high, few) in
        rw (e, n) refl
  ]

  -- the slot of a symbol in subframe 5, and the symbol's index there
  in_slot : (symbol : ℕ) → symbol < 14 → ((10 + symbol / 7) / 2 ≡ 5) × (7 * ((10 + symbol / 7) % 2) + symbol % 7 ≡ symbol)
  in_slot symbol few = (omega (arith, few), omega (arith, few))

  -- ---- resource elements that carry bits in pairs

  module _ (c_init : ℕ) (bits : ℕ → Bool) (places : List Place) (even : length places % 2 ≡ 0)
      (placed : (i : ℕ) → i < length places → let p = get_or places i (place 0 0) in (p.symbol < 14) × (p.k < 72))
      (together : (i : ℕ) → i < length places / 2 → (get_or places (2 * i) (place 0 0)).symbol / 7 ≡ (get_or places (2 * i + 1) (place 0 0)).symbol / 7)
      (carried : (p i : ℕ) → i < length places → let q = get_or places i (place 0 0) in grids (port p) number 5 q.symbol q.k ≡ sent_point (port p) (point_of (scrambled c_init bits)) i) where
    abbrev item : ℕ → Place
    item i = get_or places i (place 0 0)

    abbrev carry_bits : ℕ → Bool
    carry_bits = scrambled c_init bits

    -- the element that a port sends in resource element i, in the slot that contains it
    in_slot_sent : (p s i : ℕ) → i < length places → s ≡ 10 + (item i).symbol / 7 → slot_grid (grids (port p)) number s ((item i).symbol % 7) (item i).k ≡ sent_point (port p) (point_of carry_bits) i
    in_slot_sent p s i l e =
        let (half, row) = in_slot (item i).symbol (placed i l).0 in
        ap (λ n. slot_grid (grids (port p)) number n ((item i).symbol % 7) (item i).k) e
        ∙ ap₂ (λ (subframe symbol : ℕ). grids (port p) number subframe symbol (item i).k) half row ∙ carried p i l

    pair_is_heard : (i : ℕ) → i < length places / 2 → SpeakAs carry_bits i (pair_at over_two slot_at places i)
    pair_is_heard i l =
        let a : 2 * i < length places = omega (arith, l) in
        let b : 2 * i + 1 < length places = omega (arith, l) in
        let s : ℕ = 10 + (item (2 * i)).symbol / 7 in
        let both : s ≡ 10 + (item (2 * i + 1)).symbol / 7 = ap (λ n. 10 + n) (together i l) in
        let half : s / 2 ≡ 5 = (in_slot (item (2 * i)).symbol (placed (2 * i) a).0).0 in
        let carry = pair_carried false (point_of carry_bits) i (λ p. slot_grid (grids (port p)) number s) (item (2 * i)) (item (2 * i + 1))
        (λ p. in_slot_sent p s (2 * i) a refl) (λ p. in_slot_sent p s (2 * i + 1) b both) in
        subst (λ (z : SeenSlot). SpeakAs carry_bits i (pair_at over_two (λ p. z) places i)) (sym (slot_is (item (2 * i)) (placed (2 * i) a).0))
        (speak s half i (item (2 * i)) (item (2 * i + 1)) _ _ _ _ (placed (2 * i) a).1 (placed (2 * i + 1) b).1 carry)

    -- these resource elements have soft values with the signs of the bits before scrambling
    places_heard : AreHeard 1 (2 * length places) bits (descrambled c_init 0 (paired_by over_two slot_at places))
    places_heard = descrambled_bits_are_heard 1 (2 * length places) c_init bits (paired_by over_two slot_at places) (paired_heard over_two slot_at places carry_bits even pair_is_heard)

  -- ---- the control region

  carries : (p : ℕ) → CarriesPlan (port p) plan (grids (port p))
  carries p = carries_all (port p) (is_sender false p).own

  controls : (p : ℕ) → has_control (port p) ≡ true
  controls zero = refl
  controls (suc n) = refl

  own : (p : ℕ) → (port p).number < ports_of (port p).carrier
  own zero = omega arith
  own (suc n) = omega arith

  -- the control region's resource elements are in the first slot
  region_heard : (c_init count last : ℕ) (bits : ℕ → Bool) (places : List Place) → length places ≡ count → count % 2 ≡ 0 → last ≤ 3 →
      ((i : ℕ) → i < count → IsInRegion plan.identity last (get_or places i (place 0 0))) →
      ((p i : ℕ) → i < count → let q = get_or places i (place 0 0) in grids (port p) number 5 q.symbol q.k ≡ sent_point (port p) (point_of (scrambled c_init bits)) i) →
      AreHeard 1 (2 * count) bits (descrambled c_init 0 (paired_by over_two (λ p. slot 10) places))
  region_heard c_init count last bits places size even few stands carried =
      subst (λ n. AreHeard 1 (2 * n) bits (descrambled c_init 0 (paired_by over_two (λ p. slot 10) places))) size
      (subst (λ values. AreHeard 1 (2 * length places) bits (descrambled c_init 0 values))
      (paired_same over_two slot_at (λ p. slot 10) places (λ i l. rw (lt-ltb (get_or places (2 * i) (place 0 0)).symbol 7 (low (2 * i) (omega (arith, l)))) refl))
      (places_heard c_init bits places (omega (arith, size, even)) (λ i l. let at = low i l in (omega (arith, at), (stands i (omega (arith, l, size))).k))
      (λ i l. let at = low (2 * i) (omega (arith, l)) in let next = low (2 * i + 1) (omega (arith, l)) in omega (arith, at, next))
      (λ p i l. carried p i (omega (arith, l, size)))))
    where
      low : (i : ℕ) → i < length places → (get_or places i (place 0 0)).symbol < 7
      low i l = let at = (stands i (omega (arith, l, size))).symbol in omega (arith, at, few)

  indicator_heard : Speak (indicator_values_by (paired_by over_two) (slot 10)) plan.cfi
  unfolding seen_slot indicator_values_by indicator_point
  indicator_heard i l = supports-speaks (indicator_bit plan.cfi i) (get_or (indicator_values_by (paired_by over_two) (slot 10)) i (pos 0)) (all.value i l)
    where
      all : AreHeard 1 (2 * 16) (indicator_bit plan.cfi) (indicator_values_by (paired_by over_two) (slot 10))
      all = region_heard (pcfich_c_init plan.identity 10) 16 0 (indicator_bit plan.cfi) (pcfich_places plan.identity) (length-pcfich_places plan.identity) refl (omega arith)
          (indicator_stands first_port plan sendable) (λ p i l. indicator_carried (port p) plan (grids (port p)) (carries p) sendable (controls p) (own p) number is_even i l)

  control_heard : SpeakInOrder (grant_word (grant_of plan number)) (candidate_values_by (paired_by over_two) (slot 10) plan.cfi plan.duration plan.resource)
  unfolding seen_slot stream_values_by control_point control_word
  control_heard = record {
    enough = let size = (grant_parts (grant_of plan number)).size in let count = all.size in omega (arith, size, count);
    value = λ i l. all.value i (let count = all.size in omega (arith, l, count));
  }
    where
      all : AreHeard 1 (2 * 144) (coded_bit (grant_word (grant_of plan number))) (candidate_values_by (paired_by over_two) (slot 10) plan.cfi plan.duration plan.resource)
      all = region_heard (pdcch_c_init plan.identity 10) 144 3 (coded_bit (grant_word (grant_of plan number))) (control_places plan) (control_indexed first_port plan sendable).size refl (omega arith)
          (control_stands first_port plan sendable) (λ p i l. control_carried (port p) plan (grids (port p)) (carries p) sendable (controls p) (own p) number is_even i l)

  -- ---- the shared channel

  abbrev values : List ℤ
  values = shared_values_by TwoPorts (paired_by over_two) (slot 10) (slot 11) plan.cfi plan.start plan.blocks

  abbrev places : List Place
  places = assigned_places TwoPorts plan

  paired : length places % 2 ≡ 0
  paired = by (nat_eq plan.cfi 2) (assigned_size first_port plan sendable)
    where
      by : (b : Bool) → length places ≡ (if b then 96 else 84) * plan.blocks → length places % 2 ≡ 0
      by true e = omega (arith, e)
      by false e = omega (arith, e)

  shared_heard : AreHeard 1 (2 * length places) (shared_bit plan number) values
  unfolding seen_slot shared_values_by shared_point shared_place_of
  shared_heard =
      places_heard (pdsch_c_init plan.identity 10 system_information_rnti) (shared_bit plan number) places paired
      (λ i l. let at = assigned_stands first_port plan sendable i l in (at.symbol, at.k))
      (λ i l. ap (λ (n : ℕ). n / 7) (pair_in_one_symbol TwoPorts plan.identity plan.cfi plan.start plan.blocks (2 * i) sendable.cfi.0 sendable.cfi.1 sendable.assignment.inside (omega arith) (omega (arith, l, paired)))) by
    where
      by : (p i : ℕ) → i < length places → let q = get_or places i (place 0 0) in grids (port p) number 5 q.symbol q.k ≡ sent_point (port p) (shared_point plan number) i
      by zero i l = shared_carried first_port plan (grids first_port) (carries 0) sendable refl (omega arith) number is_even i l
      by (suc n) i l = shared_carried second_port plan (grids second_port) (carries 1) sendable refl (omega arith) number is_even i l

  -- so the values of the frame have the signs of the plan's bits
  pub system_heard : IsSystemHeard TwoPorts (subframe_by TwoPorts (paired_by over_two) (slot 10) (slot 11) plan.duration plan.resource) plan number
  system_heard = record {
    indicator = indicator_heard;
    control = control_heard;
    block = subst (λ count. AreHeard 1 count (shared_bit plan number) values) (assigned_bits_are first_port plan sendable) shared_heard;
  }
