-- Elements that carry a plan: their values where the plan has signals and channels.
use Rattle.std.proofs.Common.{◌≡◌, ℕ, ◌-◌, ◌%◌, ◌<◌, ◌≤◌, Bool, true, false, not, ◌&&◌, ◌||◌, nat_eq, None, List, length, get_or, arith, refl, sym, subst, ap₂, ◌∙◌}
use Rattle.std.specs.Prelude.{if◌then◌else◌}
use Rattle.std.proofs.lemmas.Bool.{lt-ltb, or_left, or_right, or_parts}
use Rattle.cs_num.specs.declared.Cpx.{Cpx}
use Rattle.cs_num.specs.declared.Sample.{Sample}
use Rattle.cs_num.specs.Complex.{nothing, value_at}
use Rattle.lte_types.specs.declared.carrier.Carrier.TheVariants.{OnePort, TwoPorts, LongPrefix, FourPorts}
use Rattle.lte_types.specs.declared.carrier.Carrier.{Carrier}
use Rattle.lte_types.specs.Carrier.{prefix_of, ports_of}
use Rattle.crs.specs.Ports.{is_reference_of_any}
use Rattle.lte_types.specs.declared.frame.Half.{Half}
use Rattle.lte_types.specs.declared.frame.Half.TheVariants.{Zero, Five}
use Rattle.lte_types.specs.Numerology.{subframe_of, symbols_of_slot}
use Rattle.sync_seq.specs.Middle.{is_middle}
use Rattle.grid_map.specs.declared.Place.{Place}
use Rattle.grid_map.specs.Place.{place, index_in}
use Rattle.grid_map.specs.Control.{pcfich_places}
use Rattle.grid_map.specs.Laws.{IsIndexed}
use Rattle.cell_grid.specs.declared.antenna.Port.{Port}
use Rattle.cell_plan.specs.declared.cell.CellPlan.{CellPlan}
use Rattle.cell_plan.specs.Plan.{IsSendableWith}
use Rattle.cell_grid.specs.Ports.{port_by, IsPortOf, only_port, port_symbols, port_slot, has_control, sent_point, is_own_reference, is_other_reference}
use Rattle.cell_grid.specs.Control.{control_places, indicator_point, control_point}
use Rattle.cell_grid.specs.Shared.{assigned_places, shared_point}
use Rattle.cell_grid.specs.Grid.{is_one_of, has_system_information, has_broadcast, is_indicator, is_control, is_shared, port_channel_value, port_element}
use Rattle.cell_grid.specs.Load.{is_signal_symbol, is_any_reference, has_system_place, has_channel, is_taken}
use Rattle.cell_grid.specs.Grid.{Elements}
use Rattle.cell_tx.specs.Sent.{sent}
use Rattle.cell_tx.specs.Clean.{IsClean, IsCleanOf}
use Rattle.budget.proofs.Scores.{amplitude}
use Rattle.clean_air.specs.Load.{CarriesPlan, IsLoadedBy, IsLoaded, SentElementsCarry}
use Rattle.cell_grid.proofs.Bounds.{sent_element-square}
use Rattle.cell_grid.proofs.Elements.{sent_of_taken}
use Rattle.cell_grid.proofs.SystemPlaces.{indicator_indexed, control_indexed, assigned_indexed, indicator_sent, control_sent, shared_sent}

-- ---- the plan's own elements

-- the plan's elements carry it, with or without load
pub sent_elements_carry : SentElementsCarry
sent_elements_carry load port plan = record {
  taken = λ sfn subframe symbol k e. sent_of_taken port plan sfn subframe symbol k load e;
  small = λ sfn subframe symbol k l. amplitude _ (sent_element-square load port plan sfn subframe symbol k);
}

pub own_elements_carry : (port : Port) (plan : CellPlan) → CarriesPlan port plan (port_element port plan)
own_elements_carry = sent_elements_carry None

-- ---- a recording of a cell's only port

-- a statement for all ports of a one-port scheme follows from that for its only port
pub of_only : (P : Port → Type 0) → P only_port → (port : Port) → IsPortOf OnePort port → P port
of_only P at port is = let number : port.number ≡ 0 = omega (arith, is.1) in subst P (sym (ap₂ port_by is.0 number)) at

-- a recording that is clean for elements of all ports, with one port, is clean for that port's elements
pub only_loaded : (recording : List Sample) (plan : CellPlan) (grids : Port → Elements) (sfn offset : ℕ) (gains : List Cpx) (eps : ℕ) →
    IsLoadedBy OnePort recording plan grids sfn offset gains eps → IsLoaded recording plan (grids only_port) sfn offset (value_at gains 0) eps
only_loaded recording plan grids sfn offset gains eps clean = record {
  number = clean.number;
  within = clean.within;
  carries = of_only (λ port. CarriesPlan port plan (grids only_port)) (clean.carries only_port (refl, omega arith));
  gains_are = clean.gains_are;
  bound = clean.bound;
  near = clean.near;
}

-- a recording that is clean for a sequence of elements that carry the plan is clean with load
pub loaded_of : (recording : List Sample) (plan : CellPlan) (grid : Elements) (sfn offset : ℕ) (gain : Cpx) (eps : ℕ) → sfn ≤ 1023 → CarriesPlan only_port plan grid →
    IsCleanOf (sent grid sfn) recording offset gain eps → IsLoaded recording plan grid sfn offset gain eps
loaded_of recording plan grid sfn offset gain eps known carries samples = record {
  number = known;
  within = samples.within;
  carries = of_only (λ port. CarriesPlan port plan grid) carries;
  gains_are = samples.range;
  bound = samples.bound;
  near = samples.near;
}

-- a clean recording is a clean recording with load
pub clean_is_loaded : (recording : List Sample) (plan : CellPlan) (sfn offset : ℕ) (gain : Cpx) (eps : ℕ) → IsClean recording plan sfn offset gain eps →
    IsLoaded recording plan (port_element only_port plan) sfn offset gain eps
clean_is_loaded recording plan sfn offset gain eps clean =
    loaded_of recording plan (port_element only_port plan) sfn offset gain eps clean.number (own_elements_carry only_port plan) clean.samples

-- ---- resource elements that the plan uses

-- each resource element of a channel's list belongs to the channel
among : (count : ℕ) (places : List Place) (i : ℕ) → IsIndexed count places → i < count → is_one_of places (get_or places i (place 0 0)) ≡ true
among count places i indexed l =
    let at = indexed.index i l in
    let size = indexed.size in
    lt-ltb (index_in places (get_or places i (place 0 0))) (length places) (omega (arith, at, size, l))

in_even_frame : (number : ℕ) (here : Bool) → number % 2 ≡ 0 → here ≡ true → (has_system_information number 5 && here) ≡ true
in_even_frame number here even e = rw (even, e) refl

-- the plan uses the synchronisation signals' symbols
primary_by : (carrier : Carrier) (number : ℕ) (plan : CellPlan) (half : Half) (sfn k : ℕ) → is_taken (port_by carrier number) plan sfn (subframe_of half) (symbols_of_slot (prefix_of carrier) - 1) k ≡ true
unfolding is_taken
primary_by OnePort number plan Zero sfn k = refl
primary_by OnePort number plan Five sfn k = refl
primary_by TwoPorts number plan Zero sfn k = refl
primary_by TwoPorts number plan Five sfn k = refl
primary_by LongPrefix number plan Zero sfn k = refl
primary_by LongPrefix number plan Five sfn k = refl
primary_by FourPorts number plan Zero sfn k = refl
primary_by FourPorts number plan Five sfn k = refl

primary_taken : (port : Port) (plan : CellPlan) (half : Half) (sfn k : ℕ) → is_taken port plan sfn (subframe_of half) (port_symbols port - 1) k ≡ true
primary_taken port plan half sfn k = primary_by port.carrier port.number plan half sfn k

secondary_by : (carrier : Carrier) (number : ℕ) (plan : CellPlan) (half : Half) (sfn k : ℕ) → is_taken (port_by carrier number) plan sfn (subframe_of half) (symbols_of_slot (prefix_of carrier) - 2) k ≡ true
unfolding is_taken
secondary_by OnePort number plan Zero sfn k = refl
secondary_by OnePort number plan Five sfn k = refl
secondary_by TwoPorts number plan Zero sfn k = refl
secondary_by TwoPorts number plan Five sfn k = refl
secondary_by LongPrefix number plan Zero sfn k = refl
secondary_by LongPrefix number plan Five sfn k = refl
secondary_by FourPorts number plan Zero sfn k = refl
secondary_by FourPorts number plan Five sfn k = refl

secondary_taken : (port : Port) (plan : CellPlan) (half : Half) (sfn k : ℕ) → is_taken port plan sfn (subframe_of half) (port_symbols port - 2) k ≡ true
secondary_taken port plan half sfn k = secondary_by port.carrier port.number plan half sfn k

-- the carried elements in resource elements that the plan uses
module _ (port : Port) (plan : CellPlan) (grid : Elements) (carries : CarriesPlan port plan grid) where
  pub of_own_reference : (sfn subframe symbol k : ℕ) → is_own_reference port plan.identity (port_slot port subframe symbol) (symbol % port_symbols port) k ≡ true → grid sfn subframe symbol k ≡ port_element port plan sfn subframe symbol k
  unfolding is_taken
  of_own_reference sfn subframe symbol k e = carries.taken sfn subframe symbol k here
    where
      here : is_taken port plan sfn subframe symbol k ≡ true
      here = or_right (is_signal_symbol port subframe symbol) _ (or_left (is_any_reference port plan subframe symbol k) _ (or_left _ _ e))

  pub of_other_reference : (sfn subframe symbol k : ℕ) → is_other_reference port plan.identity (port_slot port subframe symbol) (symbol % port_symbols port) k ≡ true → grid sfn subframe symbol k ≡ port_element port plan sfn subframe symbol k
  unfolding is_taken
  of_other_reference sfn subframe symbol k e = carries.taken sfn subframe symbol k here
    where
      here : is_taken port plan sfn subframe symbol k ≡ true
      here = or_right (is_signal_symbol port subframe symbol) _ (or_left (is_any_reference port plan subframe symbol k) _ (or_right (is_own_reference port plan.identity (port_slot port subframe symbol) (symbol % port_symbols port) k) _ e))

  of_channel : (sfn subframe symbol k : ℕ) → has_channel port plan sfn subframe symbol k ≡ true → grid sfn subframe symbol k ≡ port_element port plan sfn subframe symbol k
  unfolding is_taken
  of_channel sfn subframe symbol k e = carries.taken sfn subframe symbol k here
    where
      here : is_taken port plan sfn subframe symbol k ≡ true
      here = or_right (is_signal_symbol port subframe symbol) _ (or_right (is_any_reference port plan subframe symbol k) _ e)

  pub of_broadcast : (sfn subframe symbol k : ℕ) → has_broadcast port plan.identity subframe symbol k ≡ true → grid sfn subframe symbol k ≡ port_element port plan sfn subframe symbol k
  of_broadcast sfn subframe symbol k e = of_channel sfn subframe symbol k (or_left (has_broadcast port plan.identity subframe symbol k) _ e)

  -- the symbols of the synchronisation signals
  pub of_primary_symbol : (half : Half) (sfn k : ℕ) → grid sfn (subframe_of half) (port_symbols port - 1) k ≡ port_element port plan sfn (subframe_of half) (port_symbols port - 1) k
  of_primary_symbol half sfn k = carries.taken sfn (subframe_of half) (port_symbols port - 1) k (primary_taken port plan half sfn k)

  pub of_secondary_symbol : (half : Half) (sfn k : ℕ) → grid sfn (subframe_of half) (port_symbols port - 2) k ≡ port_element port plan sfn (subframe_of half) (port_symbols port - 2) k
  of_secondary_symbol half sfn k = carries.taken sfn (subframe_of half) (port_symbols port - 2) k (secondary_taken port plan half sfn k)

  -- channels of subframe 5 in even-numbered frames: the control format indicator
  module _ {Enough : Type 0} (sendable : IsSendableWith Enough plan) (control : has_control port ≡ true) (own : port.number < ports_of port.carrier) (number : ℕ) where
    of_system : (symbol k : ℕ) → has_system_place port plan number 5 symbol k ≡ true → grid number 5 symbol k ≡ port_element port plan number 5 symbol k
    of_system symbol k e = of_channel number 5 symbol k (or_right (has_broadcast port plan.identity 5 symbol k) _ (rw control e))

    pub indicator_carried : number % 2 ≡ 0 → (i : ℕ) → i < 16 → let p = get_or (pcfich_places plan.identity) i (place 0 0) in grid number 5 p.symbol p.k ≡ sent_point port (indicator_point plan 5) i
    indicator_carried even i l =
        let p = get_or (pcfich_places plan.identity) i (place 0 0) in
        of_system p.symbol p.k (or_left (has_system_information number 5 && is_indicator plan p.symbol p.k) _
        (in_even_frame number _ even (among 16 (pcfich_places plan.identity) i (indicator_indexed port plan sendable) l)))
        ∙ indicator_sent port plan sendable control own number i l

    -- the control channel's candidate and the shared channel
    pub control_carried : number % 2 ≡ 0 → (i : ℕ) → i < 144 → let p = get_or (control_places plan) i (place 0 0) in grid number 5 p.symbol p.k ≡ sent_point port (control_point plan number) i
    control_carried even i l =
        let p = get_or (control_places plan) i (place 0 0) in
        of_system p.symbol p.k (or_right (has_system_information number 5 && is_indicator plan p.symbol p.k) _ (or_left _ _ (in_even_frame number _ even (among 144 (control_places plan) i (control_indexed port plan sendable) l))))
        ∙ control_sent port plan sendable control own number even i l

    pub shared_carried : number % 2 ≡ 0 → (i : ℕ) → i < length (assigned_places port.carrier plan) →
        let p = get_or (assigned_places port.carrier plan) i (place 0 0) in grid number 5 p.symbol p.k ≡ sent_point port (shared_point plan number) i
    shared_carried even i l =
        let p = get_or (assigned_places port.carrier plan) i (place 0 0) in
        of_system p.symbol p.k (or_right (has_system_information number 5 && is_indicator plan p.symbol p.k) _
        (or_right (is_control plan number 5 p.symbol p.k) _ (in_even_frame number _ even (among (length (assigned_places port.carrier plan)) (assigned_places port.carrier plan) i (assigned_indexed port plan sendable) l))))
        ∙ shared_sent port plan sendable control own number even i l

-- ---- open resource elements

pub no_signal : (a b c m : Bool) → (a && (b || c)) ≡ false → (((a && c) && m) ≡ false) × (((a && b) && m) ≡ false)
no_signal false b c m e = (refl, refl)
no_signal true true c m e = absurd cc
no_signal true false true m e = absurd cc
no_signal true false false m e = (refl, refl)

-- an element that belongs to no channel is zero
no_channels : (there here indicator control shared : Bool) (x y z : Cpx) → (there && ((here && indicator) || (control || shared))) ≡ false → (there && indicator) ≡ false →
    (if there then (if indicator then x else (if control then y else (if shared then z else nothing))) else nothing) ≡ nothing
no_channels false here indicator control shared x y z e none = refl
no_channels true here true control shared x y z e none = absurd cc
no_channels true false false false false x y z e none = refl
no_channels true true false false false x y z e none = refl
no_channels true false false true shared x y z e none = absurd cc
no_channels true true false true shared x y z e none = absurd cc
no_channels true false false false true x y z e none = absurd cc
no_channels true true false false true x y z e none = absurd cc

-- if a reference signal is neither the port's own nor another port's, there is none
pub left_false : (own any : Bool) → own ≡ false → (not own && any) ≡ false → any ≡ false
left_false false any e f = f
left_false true any e f = absurd cc

-- the plan sends nothing in an open resource element
pub open_is_silent : (port : Port) (plan : CellPlan) (sfn subframe symbol k : ℕ) → is_taken port plan sfn subframe symbol k ≡ false → (has_control port && is_indicator plan symbol k) ≡ false →
    port_element port plan sfn subframe symbol k ≡ nothing
unfolding is_taken port_element port_channel_value
open_is_silent port plan sfn subframe symbol k e none =
    let signals = or_parts (is_signal_symbol port subframe symbol) _ e in
    let references = or_parts (is_any_reference port plan subframe symbol k) _ signals.1 in
    let reference = or_parts (is_own_reference port plan.identity (port_slot port subframe symbol) (symbol % port_symbols port) k) _ references.0 in
    let none_left = left_false _ (is_reference_of_any port.carrier plan.identity (port_slot port subframe symbol) (symbol % port_symbols port) k) reference.0 reference.1 in
    let channels = or_parts (has_broadcast port plan.identity subframe symbol k) _ references.1 in
    let signal = no_signal (nat_eq subframe 0 || nat_eq subframe 5) (nat_eq symbol (port_symbols port - 2)) (nat_eq symbol (port_symbols port - 1)) (is_middle k) signals.0 in
    rw (reference.0, none_left, signal.0, signal.1, channels.0)
    (no_channels (has_control port) (has_system_information sfn subframe) (is_indicator plan symbol k) (is_control plan sfn subframe symbol k) (is_shared port plan sfn subframe symbol k) _ _ _ channels.1 none)
