-- In subframe 5 of an even frame, the PDCCH and PDSCH resource elements carry their symbols.
use Rattle.std.proofs.Common.{◌≡◌, ℕ, zero, suc, ◌+◌, ◌*◌, ◌/◌, ◌%◌, ◌<◌, ◌≤◌, ◌⊎◌, inl, inr, Bool, true, false, ◌&&◌, ◌||◌, nat_eq, List, length, get_or, None, refl, ap, sym, subst, ◌-◌, ◌∙◌, arith}
use Rattle.std.proofs.lemmas.Bool.{lt-ltb}
use Rattle.std.proofs.lemmas.Bool.Decides.{nat_tests}
use Rattle.crs.specs.Reference.{is_reference, is_second_reference}
use Rattle.grid_map.specs.declared.Place.{Place}
use Rattle.grid_map.specs.Place.{place, index_in}
use Rattle.grid_map.specs.Control.{pcfich_places}
use Rattle.grid_map.specs.Shared.{is_pilot_of, block_places_of}
use Rattle.grid_map.specs.Laws.{IsIndexed}
use Rattle.grid_map.proofs.Symbols.{pdsch_count}
use Rattle.grid_map.proofs.Indexed.{pcfich_indexed, candidate_indexed, pdcch_carry, shared_indexed}
use Rattle.grid_map.proofs.Apart.{IsInRegion, IsAfterRegion, indicator_place, control_place, control_not_indicator, shared_place}
use Rattle.cell_grid.specs.declared.antenna.Port.{Port}
use Rattle.lte_types.specs.declared.carrier.Carrier.{Carrier}
use Rattle.lte_types.specs.declared.carrier.Carrier.TheVariants.{OnePort, TwoPorts, LongPrefix, FourPorts}
use Rattle.lte_types.specs.Carrier.{prefix_of, ports_of, has_control_by}
use Rattle.lte_types.specs.Numerology.{symbols_of_slot}
use Rattle.cell_plan.specs.declared.cell.CellPlan.{CellPlan}
use Rattle.cell_plan.specs.Transport.{assigned_bits_of}
use Rattle.cell_plan.specs.Plan.{IsSendableWith}
use Rattle.cell_grid.specs.Ports.{port_by, port_symbols, has_control, sent_point}
use Rattle.cell_grid.specs.Control.{control_places, indicator_point, control_point}
use Rattle.cell_grid.specs.Shared.{assigned_places, shared_point}
use Rattle.cell_grid.specs.Grid.{is_one_of, is_synchronised, has_broadcast, is_indicator, is_control, is_shared, has_system_information, port_channel_value, port_element}
use Rattle.cell_grid.specs.Rows.{port_reference_if}
use Rattle.cell_grid.proofs.PlaceValues.{absent_is}
use Rattle.cell_grid.proofs.Broadcast.{not_broadcast}
use Rattle.cell_grid.proofs.Elements.{is_zeroth, is_second, both_false, none_of, element_of_channel}

-- ---- lists without duplicates

abbrev item : List Place → ℕ → Place
item places i = get_or places i (place 0 0)

among : (count : ℕ) (places : List Place) (i : ℕ) → IsIndexed count places → i < count → is_one_of places (item places i) ≡ true
among count places i indexed l =
    let at = indexed.index i l in
    let size = indexed.size in
    lt-ltb (index_in places (item places i)) (length places) (omega (arith, at, size, l))

-- ---- resource elements in a channel

-- the resource element lies in subframe 5 and carries no reference or synchronisation signal
record IsChannelPlace (port : Port) (identity : ℕ) (p : Place) : Type 0 where
  free : (slot : ℕ) → port_reference_if port identity slot (p.symbol % 7) p.k ≡ None
  beside : (nat_eq p.symbol 5 || nat_eq p.symbol 6) ≡ false

-- the port belongs to its transmission scheme
abbrev IsIn : Port → Type 0
IsIn port = port.number < ports_of port.carrier

-- a port with a control region has seven symbols in a slot
seven_of : (carrier : Carrier) → has_control_by carrier ≡ true → symbols_of_slot (prefix_of carrier) ≡ 7
seven_of OnePort has = refl
seven_of TwoPorts has = refl
seven_of LongPrefix has = absurd cc
seven_of FourPorts has = absurd cc

pub symbols_are : (port : Port) → has_control port ≡ true → port_symbols port ≡ 7
symbols_are port has = seven_of port.carrier has

-- a cell with one or two ports transmits no reference signal where these ports have no reference position
one_of : (number identity slot symbol k : ℕ) → number < 1 → is_reference identity symbol k ≡ false → port_reference_if (port_by OnePort number) identity slot symbol k ≡ None
one_of zero identity slot symbol k inside e =
    let none = is_zeroth identity symbol k ∙ e in
    none_of (port_by OnePort 0) identity slot symbol k none (both_false _ _ none refl)
one_of (suc number) identity slot symbol k inside e = absurd (omega (arith, inside))

two_of : (number identity slot symbol k : ℕ) → number < 2 → is_reference identity symbol k ≡ false → is_second_reference identity symbol k ≡ false → port_reference_if (port_by TwoPorts number) identity slot symbol k ≡ None
two_of zero identity slot symbol k inside e f =
    let none = is_zeroth identity symbol k ∙ e in
    none_of (port_by TwoPorts 0) identity slot symbol k none (both_false _ _ none (both_false _ _ (is_second identity symbol k ∙ f) refl))
two_of (suc zero) identity slot symbol k inside e f =
    let none = is_second identity symbol k ∙ f in
    none_of (port_by TwoPorts 1) identity slot symbol k none (both_false _ _ (is_zeroth identity symbol k ∙ e) (both_false _ _ none refl))
two_of (suc (suc number)) identity slot symbol k inside e f = absurd (omega (arith, inside))

pilot_by : (carrier : Carrier) (number identity slot symbol k : ℕ) → has_control_by carrier ≡ true → number < ports_of carrier → is_reference identity symbol k ≡ false → is_second_reference identity symbol k ≡ false →
    port_reference_if (port_by carrier number) identity slot symbol k ≡ None
pilot_by OnePort number identity slot symbol k has inside e f = one_of number identity slot symbol k inside e
pilot_by TwoPorts number identity slot symbol k has inside e f = two_of number identity slot symbol k inside e f
pilot_by LongPrefix number identity slot symbol k has inside e f = absurd cc
pilot_by FourPorts number identity slot symbol k has inside e f = absurd cc

of_region : (port : Port) (identity last : ℕ) (p : Place) → has_control port ≡ true → IsIn port → last ≤ 3 → IsInRegion identity last p → IsChannelPlace port identity p
of_region port identity last p has inside few at = record {
  free = λ slot. pilot_by port.carrier port.number identity slot (p.symbol % 7) p.k has inside at.free at.second_free;
  beside = let below = at.symbol in grind (arith, nat_tests);
}

no_either : (a b : Bool) → (a || b) ≡ false → (a ≡ false) × (b ≡ false)
no_either true b e = absurd cc
no_either false b e = (refl, e)

no_pilot_by : (carrier : Carrier) (number identity slot : ℕ) (p : Place) → has_control_by carrier ≡ true → number < ports_of carrier → is_pilot_of carrier identity p ≡ false →
    port_reference_if (port_by carrier number) identity slot (p.symbol % 7) p.k ≡ None
no_pilot_by OnePort number identity slot p has inside e =
    one_of number identity slot (p.symbol % 7) p.k inside (sym (is_zeroth identity (p.symbol % 7) p.k) ∙ (no_either _ _ e).0)
no_pilot_by TwoPorts number identity slot p has inside e =
    let others = no_either _ _ e in
    two_of number identity slot (p.symbol % 7) p.k inside (sym (is_zeroth identity (p.symbol % 7) p.k) ∙ others.0)
    (sym (is_second identity (p.symbol % 7) p.k) ∙ (no_either _ _ others.1).0)
no_pilot_by LongPrefix number identity slot p has inside e = absurd cc
no_pilot_by FourPorts number identity slot p has inside e = absurd cc

of_shared : (port : Port) (identity last : ℕ) (p : Place) → has_control port ≡ true → IsIn port → IsAfterRegion port.carrier identity last p → IsChannelPlace port identity p
of_shared port identity last p has inside at = record {
  free = λ slot. no_pilot_by port.carrier port.number identity slot p has inside at.free;
  beside = subst (λ (n : ℕ). (nat_eq p.symbol (n - 2) || nat_eq p.symbol (n - 1)) ≡ false) (seven_of port.carrier has) at.beside;
}

no_signal : (symbol signal : ℕ) (middle : Bool) → (nat_eq symbol 5 || nat_eq symbol 6) ≡ false → (signal ≡ 5) ⊎ (signal ≡ 6) → (nat_eq symbol signal && middle) ≡ false
no_signal symbol signal middle e which = let other : nat_eq symbol signal ≡ false = grind (arith, nat_tests) in rw other refl

element_is : (port : Port) (plan : CellPlan) (number : ℕ) (p : Place) → has_control port ≡ true → IsChannelPlace port plan.identity p →
    port_element port plan number 5 p.symbol p.k ≡ port_channel_value port plan number 5 p.symbol p.k
element_is port plan number p has at =
    let seven = sym (symbols_are port has) in
    element_of_channel port plan number 5 p.symbol p.k
    (subst (λ (n : ℕ). port_reference_if port plan.identity (2 * 5 + p.symbol / n) (p.symbol % n) p.k ≡ None) seven (at.free (2 * 5 + p.symbol / 7)))
    (subst (λ (n : ℕ). is_synchronised (n - 1) 5 p.symbol p.k ≡ false) seven (no_signal p.symbol 6 _ at.beside (inr refl)))
    (subst (λ (n : ℕ). is_synchronised (n - 2) 5 p.symbol p.k ≡ false) seven (no_signal p.symbol 5 _ at.beside (inl refl)))

-- subframe 5 has no PBCH
no_broadcast : (port : Port) (identity symbol k : ℕ) → has_broadcast port identity 5 symbol k ≡ false
no_broadcast port identity symbol k = not_broadcast port identity 5 symbol k (λ slot. absurd (omega (arith, slot)))

module _ (port : Port) (plan : CellPlan) (number symbol k : ℕ) (has : has_control port ≡ true) where
  of_indicator : is_indicator plan symbol k ≡ true →
      port_channel_value port plan number 5 symbol k ≡ sent_point port (indicator_point plan 5) (index_in (pcfich_places plan.identity) (place symbol k))
  unfolding port_channel_value
  of_indicator e = rw (no_broadcast port plan.identity symbol k, has, e) refl

  of_control : is_indicator plan symbol k ≡ false → is_control plan number 5 symbol k ≡ true →
      port_channel_value port plan number 5 symbol k ≡ sent_point port (control_point plan number) (index_in (control_places plan) (place symbol k))
  unfolding port_channel_value
  of_control e f = rw (no_broadcast port plan.identity symbol k, has, e, f) refl

  of_shared_channel : is_indicator plan symbol k ≡ false → is_control plan number 5 symbol k ≡ false → is_shared port plan number 5 symbol k ≡ true →
      port_channel_value port plan number 5 symbol k ≡ sent_point port (shared_point plan number) (index_in (assigned_places port.carrier plan) (place symbol k))
  unfolding port_channel_value
  of_shared_channel e f g = rw (no_broadcast port plan.identity symbol k, has, e, f, g) refl

-- ---- the three channels

module _ {Enough : Type 0} (port : Port) (plan : CellPlan) (sendable : IsSendableWith Enough plan) where
  low : 2 ≤ plan.cfi
  low = sendable.cfi.0

  high : plan.cfi ≤ 3
  high = sendable.cfi.1

  -- the PDSCH resource elements
  abbrev assigned : List Place
  assigned = assigned_places port.carrier plan

  -- no resource element occurs twice in a channel's list
  pub indicator_indexed : IsIndexed 16 (pcfich_places plan.identity)
  indicator_indexed = pcfich_indexed plan.identity

  pub control_indexed : IsIndexed 144 (control_places plan)
  control_indexed = candidate_indexed plan.identity _ (pdcch_carry plan.identity plan.cfi plan.duration plan.resource low high)

  pub assigned_indexed : IsIndexed (length assigned) assigned
  assigned_indexed = shared_indexed port.carrier plan.identity plan.cfi plan.start plan.blocks

  -- PDSCH has one resource element for every two bits
  pub assigned_size : length assigned ≡ block_places_of port.carrier plan.cfi * plan.blocks
  assigned_size = pdsch_count port.carrier plan.identity plan.cfi plan.start plan.blocks low high sendable.assignment.inside

  pub assigned_bits_are : 2 * length assigned ≡ assigned_bits_of port.carrier plan
  assigned_bits_are = ap (λ (n : ℕ). 2 * n) assigned_size

  -- the regions that the channels occupy
  pub indicator_stands : (i : ℕ) → i < 16 → IsInRegion plan.identity 0 (item (pcfich_places plan.identity) i)
  indicator_stands i l = indicator_place plan.identity i l

  pub control_stands : (i : ℕ) → i < 144 → IsInRegion plan.identity 3 (item (control_places plan) i)
  control_stands i l =
      let at = control_place plan.identity plan.cfi plan.duration plan.resource low high i l in
      record { symbol = let below = at.symbol in let few = high in omega (arith, below, few); k = at.k; free = at.free; second_free = at.second_free }

  pub assigned_stands : (i : ℕ) → i < length assigned → IsAfterRegion port.carrier plan.identity plan.cfi (item assigned i)
  assigned_stands i l = shared_place port.carrier plan.identity plan.cfi plan.start plan.blocks i l

  -- PDCCH does not overlap PCFICH
  control_no_indicator : (i : ℕ) → i < 144 → is_one_of (pcfich_places plan.identity) (item (control_places plan) i) ≡ false
  control_no_indicator i l =
      let size = indicator_indexed.size in
      absent_is (pcfich_places plan.identity) (item (control_places plan) i)
      (λ j inside same. control_not_indicator plan.identity plan.cfi plan.duration plan.resource low high j i (omega (arith, size, inside)) l same)

  -- PDSCH does not overlap the control region
  shared_no_indicator : (i : ℕ) → i < length assigned → is_one_of (pcfich_places plan.identity) (item assigned i) ≡ false
  shared_no_indicator i l =
      let size = indicator_indexed.size in
      let after = (assigned_stands i l).after in
      absent_is (pcfich_places plan.identity) (item assigned i)
      (λ j inside same. let first = (indicator_stands j (omega (arith, size, inside))).symbol in let level = ap (λ (p : Place). p.symbol) same in omega (arith, first, level, after))

  shared_no_control : (i : ℕ) → i < length assigned → is_one_of (control_places plan) (item assigned i) ≡ false
  shared_no_control i l =
      let size = control_indexed.size in
      let after = (assigned_stands i l).after in
      absent_is (control_places plan) (item assigned i)
      (λ j inside same. let first = (control_place plan.identity plan.cfi plan.duration plan.resource low high j (omega (arith, size, inside))).symbol in
      let level = ap (λ (p : Place). p.symbol) same in omega (arith, first, level, after))

  -- values that a port with a control region transmits
  module _ (has : has_control port ≡ true) (inside : IsIn port) (number : ℕ) where
    -- the PCFICH resource elements carry its symbols in every frame
    pub indicator_sent : (i : ℕ) → i < 16 →
        port_element port plan number 5 (item (pcfich_places plan.identity) i).symbol (item (pcfich_places plan.identity) i).k ≡ sent_point port (indicator_point plan 5) i
    indicator_sent i l =
        let p : Place = item (pcfich_places plan.identity) i in
        element_is port plan number p has (of_region port plan.identity 0 p has inside (omega arith) (indicator_stands i l))
        ∙ of_indicator port plan number p.symbol p.k has (among 16 (pcfich_places plan.identity) i indicator_indexed l)
        ∙ ap (sent_point port (indicator_point plan 5)) (indicator_indexed.index i l)

    module _ (even : number % 2 ≡ 0) where
      has_information : (there : Bool) → (has_system_information number 5 && there) ≡ there
      has_information there = rw even refl

      -- in even frames the PDCCH resource elements carry the grant's symbols
      pub control_sent : (i : ℕ) → i < 144 →
          port_element port plan number 5 (item (control_places plan) i).symbol (item (control_places plan) i).k ≡ sent_point port (control_point plan number) i
      control_sent i l =
          let p : Place = item (control_places plan) i in
          element_is port plan number p has (of_region port plan.identity 3 p has inside (omega arith) (control_stands i l))
          ∙ of_control port plan number p.symbol p.k has (control_no_indicator i l) (has_information _ ∙ among 144 (control_places plan) i control_indexed l)
          ∙ ap (sent_point port (control_point plan number)) (control_indexed.index i l)

      -- in even frames the assigned resource blocks carry the system information's symbols
      pub shared_sent : (i : ℕ) → i < length assigned →
          port_element port plan number 5 (item assigned i).symbol (item assigned i).k ≡ sent_point port (shared_point plan number) i
      shared_sent i l =
          let p : Place = item assigned i in
          element_is port plan number p has (of_shared port plan.identity plan.cfi p has inside (assigned_stands i l))
          ∙ of_shared_channel port plan number p.symbol p.k has (shared_no_indicator i l) (has_information _ ∙ shared_no_control i l)
          (has_information _ ∙ among (length assigned) assigned i assigned_indexed l)
          ∙ ap (sent_point port (shared_point plan number)) (assigned_indexed.index i l)
