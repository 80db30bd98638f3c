-- Symbols of a recording that is faithful to a cell are received as they were sent.
use Rattle.std.proofs.Common.{◌≡◌, ℕ, ◌+◌, ◌*◌, ◌/◌, ◌%◌, ◌<◌, None, Bool, true, false, ◌&&◌, nat_eq, nat_lt, arith, inl, refl, ap, subst, ◌∙◌, List, [], length, slice_index_or}
use Rattle.std.specs.Prelude.{if◌then◌else◌}
use Rattle.std.proofs.lemmas.Bool.{lt-ltb}
use Rattle.std.proofs.lemmas.Bool.Decides.{nat_tests}
use Rattle.finite.proofs.Lists.{values_below_at}
use Rattle.cs_num.specs.declared.Cpx.{Cpx}
use Rattle.cs_num.specs.declared.Sample.{Sample}
use Rattle.cs_num.specs.Complex.{value_at}
use Rattle.lte_types.specs.declared.carrier.Carrier.TheVariants.{LongPrefix}
use Rattle.lte_types.specs.Numerology.{extended, useful_start}
use Rattle.lte_types.specs.Timing.{start_of, number_at_start}
use Rattle.crs.specs.Reference.{long_prefix, is_pattern_place, pattern_reference}
use Rattle.crs.proofs.Spacing.{lower_other}
use Rattle.observe.specs.Seen.{seen_symbol}
use Rattle.grid_map.specs.declared.Place.{Place}
use Rattle.grid_map.specs.Place.{place, index_in}
use Rattle.sync_seq.specs.Middle.{is_middle}
use Rattle.soft_bits.specs.Soft.{pilot_subcarrier, pattern_symbol, pattern_sent}
use Rattle.cell_grid.specs.declared.antenna.Port.{Port}
use Rattle.cell_grid.specs.Ports.{long_port}
use Rattle.cell_plan.specs.declared.cell.CellPlan.{CellPlan}
use Rattle.cell_grid.specs.Block.{port_point}
use Rattle.cell_grid.specs.Grid.{has_broadcast, port_element}
use Rattle.cell_grid.specs.Rows.{port_reference_if}
use Rattle.cell_grid.specs.Grid.{Elements}
use Rattle.cell_grid.proofs.Elements.{element_of_channel, channel_of_broadcast}
use Rattle.explain.specs.Frame.{frame_at}
use Rattle.budget.specs.Received.{IsReceived, samples_from}
use Rattle.clean_air.specs.Values.{IsPatternReceived}
use Rattle.clean_air.specs.Load.{CarriesPlan}
use Rattle.clean_air.specs.Faithful.{first_frame_of, IsFaithfulBy}
use Rattle.clean_air.proofs.Carrying.{of_own_reference, of_broadcast}
use Rattle.clean_air.proofs.SentSymbols.{symbol_off, first_frame}
use Rattle.grid_map.specs.LongBroadcast.{is_kept, long_places}
use Rattle.long_prefix.specs.Entries.{long_slot}
use Rattle.grid_map.proofs.LongOrder.{length-long_places, long_place_is}

-- ---- slot 1

-- the symbols of slot 1 in the frame with this number
abbrev pub slot_row : Elements → ℕ → ℕ → ℕ → Cpx
slot_row grid number l = grid number 0 (6 + l)

-- each pilot is a reference element of symbol 0 or 3
record IsPilotPlace (identity symbol k : ℕ) : Type 0 where
  is : is_pattern_place long_prefix identity symbol k ≡ true
  inside : symbol < 6

other_symbol : (identity i k : ℕ) → k ≡ pilot_subcarrier identity i → is_pattern_place long_prefix identity 0 k ≡ false → is_pattern_place long_prefix identity 3 k ≡ true
other_symbol identity i k e none = lower_other identity k (omega (arith, e)) none

pilot_place : (identity i : ℕ) → IsPilotPlace identity (pattern_symbol long_prefix identity i) (pilot_subcarrier identity i)
unfolding pattern_symbol
pilot_place identity i = settle (is_pattern_place long_prefix identity 0 (pilot_subcarrier identity i)) refl
  where
    settle : (b : Bool) → is_pattern_place long_prefix identity 0 (pilot_subcarrier identity i) ≡ b →
        IsPilotPlace identity (if b then 0 else 3) (pilot_subcarrier identity i)
    settle true e = record { is = e; inside = omega arith }
    settle false e = record { is = other_symbol identity i (pilot_subcarrier identity i) refl e; inside = omega arith }

reference_here : (plan : CellPlan) (number l k : ℕ) → l < 6 → is_pattern_place long_prefix plan.identity l k ≡ true → slot_row (port_element long_port plan) number l k ≡ pattern_reference long_prefix plan.identity 1 l (k / 6)
unfolding port_element
reference_here plan number l k inside is =
    let symbol : (6 + l) % 6 ≡ l = omega (arith, inside) in
    let slot : 2 * 0 + (6 + l) / 6 ≡ 1 = omega (arith, inside) in
    rw (symbol, slot, is) refl

reference_carried : (plan : CellPlan) (grid : Elements) → CarriesPlan long_port plan grid → (number l k : ℕ) → l < 6 → is_pattern_place long_prefix plan.identity l k ≡ true →
    slot_row grid number l k ≡ slot_row (port_element long_port plan) number l k
reference_carried plan grid carries number l k inside is =
    let symbol : (6 + l) % 6 ≡ l = omega (arith, inside) in
    of_own_reference long_port plan grid carries number 0 (6 + l) k (rw symbol is)

pub references_stand : (plan : CellPlan) (grid : Elements) → CarriesPlan long_port plan grid → (number i : ℕ) → slot_row grid number (pattern_symbol long_prefix plan.identity i) (pilot_subcarrier plan.identity i) ≡ pattern_sent long_prefix plan.identity 1 i
unfolding pattern_sent
references_stand plan grid carries number i =
    let p = pilot_place plan.identity i in
    reference_carried plan grid carries number (pattern_symbol long_prefix plan.identity i) (pilot_subcarrier plan.identity i) p.inside p.is ∙
    reference_here plan number (pattern_symbol long_prefix plan.identity i) (pilot_subcarrier plan.identity i) p.inside p.is

-- a resource element that is not kept for reference signals has none
free_place : (identity : ℕ) (p : Place) → p.symbol < 4 → is_kept (identity % 3) p ≡ false → is_pattern_place long_prefix identity p.symbol p.k ≡ false
free_place identity p few free = grind (arith, nat_tests)

not_there : (signal l : ℕ) (a : Bool) → signal < 6 → (nat_eq (6 + l) signal && a) ≡ false
not_there signal l a few = let e : nat_eq (6 + l) signal ≡ false = grind (arith, nat_tests) in rw e refl

-- each resource element of the broadcast channel holds its symbol
pub points_stand : (plan : CellPlan) (grid : Elements) → CarriesPlan long_port plan grid → (number i : ℕ) → i < 216 →
    let p = slice_index_or (long_places plan.identity) i (place 0 0) in slot_row grid number p.symbol p.k ≡ port_point long_port plan number i
points_stand plan grid carries number i inside =
    let p : Place = slice_index_or (long_places plan.identity) i (place 0 0) in
    let at = long_place_is plan.identity i inside in
    let few = at.symbol in
    let symbol : (6 + p.symbol) % 6 ≡ p.symbol = omega (arith, few) in
    let slot : 2 * 0 + (6 + p.symbol) / 6 ≡ 1 = omega (arith, few) in
    let free = free_place plan.identity p at.symbol at.free in
    let none : port_reference_if long_port plan.identity (2 * 0 + (6 + p.symbol) / 6) ((6 + p.symbol) % 6) p.k ≡ None = rw (symbol, free) refl in
    let there : nat_lt i (length (long_places plan.identity)) ≡ true = lt-ltb i (length (long_places plan.identity)) (let n = length-long_places plan.identity in omega (arith, inside, n)) in
    let here : has_broadcast long_port plan.identity 0 (6 + p.symbol) p.k ≡ true = rw (symbol, slot, at.index, there) refl in
    of_broadcast long_port plan grid carries number 0 (6 + p.symbol) p.k here
    ∙ element_of_channel long_port plan number 0 (6 + p.symbol) p.k none (not_there 5 p.symbol (is_middle p.k) (omega arith)) (not_there 4 p.symbol (is_middle p.k) (omega arith))
    ∙ channel_of_broadcast long_port plan number 0 (6 + p.symbol) p.k here
    ∙ ap (λ (n : ℕ). port_point long_port plan number (index_in (long_places plan.identity) (place n p.k))) symbol ∙ ap (port_point long_port plan number) at.index

-- the first frame's slot is received
pub slot_received : (recording : List Sample) (plan : CellPlan) (grids : Port → Elements) (sfn offset : ℕ) (gains : List Cpx) → IsFaithfulBy LongPrefix recording plan grids sfn offset gains →
    IsPatternReceived 1800 long_prefix 6 recording (useful_start extended (frame_at (start_of offset) 0) 1) (slot_row (grids long_port) (number_at_start sfn offset)) (long_slot recording plan.identity (start_of offset) 0)
unfolding long_slot
slot_received recording plan grids sfn offset gains faithful =
    let grid = grids long_port in
    let gain = value_at gains 0 in
    let number : ℕ = number_at_start sfn offset in
    let start : ℕ → ℕ = useful_start extended (frame_at (start_of offset) 0) 1 in
    let n : ℕ = first_frame_of offset in
    let first = first_frame sfn offset faithful.number faithful.within in
    record {
      gain = gain;
      seen = λ l inside. values_below_at (λ symbol. seen_symbol recording (start symbol)) 6 l [] inside;
      amplitudes = λ l inside. (faithful.carries long_port (refl, omega arith)).small number 0 (6 + l);
      received = λ l inside. subst (λ m. IsReceived 1800 gain (slot_row grid m l) (samples_from recording (start l))) first.number (record {
        sounds = faithful.gains_are.sounds;
        quiet = symbol_off LongPrefix recording plan grids sfn offset gains faithful n 1 l (start l) (omega arith) inside (omega (arith, first.place)) (inl (refl, refl));
      });
      references = λ i inside. references_stand plan grid (faithful.carries long_port (refl, omega arith)) number i;
    }
