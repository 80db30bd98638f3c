-- A cell's two or four ports by their numbers: the sum received from all ports, and each port's elements.
use Rattle.std.proofs.Common.{◌≡◌, ℕ, zero, suc, ◌+◌, ◌-◌, ◌*◌, ◌^◌, ◌/◌, ◌%◌, ◌<◌, ◌≤◌, Bool, true, false, not, ◌&&◌, ◌||◌, nat_eq, List, Some, None, arith, refl, ap, sym, subst, ◌∙◌}
use Rattle.std.specs.Prelude.{if◌then◌else◌}
use Rattle.std.proofs.lemmas.Bool.Decides.{nat_tests}
use Rattle.finite.specs.Sums.{sum_below}
use Rattle.cs_num.specs.declared.Cpx.{Cpx}
use Rattle.cs_num.specs.Complex.{nothing, plus, times, conjugate, negated, value_at}
use Rattle.cs_num.proofs.Complex.{plus-nothing, plus-associates}
use Rattle.norms.specs.Magnitudes.{energy_below}
use Rattle.grid_map.specs.declared.Place.{Place}
use Rattle.grid_map.specs.Scrambling.{pbch_c_init}
use Rattle.lte_types.specs.declared.carrier.Carrier.{Carrier}
use Rattle.lte_types.specs.declared.carrier.Carrier.TheVariants.{TwoPorts, FourPorts}
use Rattle.lte_types.specs.Carrier.{ports_of, prefix_of}
use Rattle.lte_types.specs.Numerology.{normal}
use Rattle.crs.specs.Reference.{port_0, port_1, is_pattern_place, pattern_reference, reference_at}
use Rattle.soft_bits.specs.Lines.{Line, line_of, line_place}
use Rattle.soft_bits.specs.Pairs.{Pairing, over_two, over_four}
use Rattle.soft_bits.specs.Soft.{SeenSlot}
use Rattle.budget.specs.Received.{received_of}
use Rattle.cell_grid.specs.declared.antenna.Port.{Port}
use Rattle.cell_plan.specs.declared.cell.CellPlan.{CellPlan}
use Rattle.cell_grid.specs.Block.{port_word, port_point, port_bit, scrambled_bit}
use Rattle.cell_tx.specs.Emission.{mixed}
use Rattle.cell_grid.specs.Points.{point_of}
use Rattle.cell_grid.specs.Ports.{IsPortOf, first_port, second_port, port_of_four, port_symbols, crossed_point, sent_point}
use Rattle.cell_grid.specs.Rows.{port_reference_if}
use Rattle.cell_grid.proofs.Elements.{is_zeroth, is_second, normal_reference}
use Rattle.clean_air.specs.Faithful.{ArePartGains, IsLittle}
use Rattle.two_ports.specs.Received.{only, over, CarryPair}
use Rattle.two_ports.proofs.Energies.{squares, four_squares}
use Rattle.two_ports.proofs.References.{IsAlone, is_alone, own_value}

-- ---- the ports

-- the pairing for two or for four ports, and its error quota
abbrev pub pairing_of : Bool → Pairing
pairing_of false = over_two
pairing_of true = over_four

abbrev pub quota_of : Bool → ℕ
quota_of false = 400
quota_of true = 7

abbrev pub carrier : Bool → Carrier
carrier four = (pairing_of four).carrier

-- the port with this number
abbrev pub sender : Bool → ℕ → Port
sender false zero = first_port
sender false (suc n) = second_port
sender true zero = port_of_four 0
sender true (suc zero) = port_of_four 1
sender true (suc (suc zero)) = port_of_four 2
sender true (suc (suc (suc n))) = port_of_four 3

pub is_normal : (four : Bool) → prefix_of (carrier four) ≡ normal
is_normal false = refl
is_normal true = refl

-- the bits that a frame carries
abbrev pub sent_bits : Port → CellPlan → ℕ → ℕ → Bool
sent_bits first plan number i = scrambled_bit (pbch_c_init plan.identity) (port_word first plan number) (480 * (number % 4) + i)

-- each port belongs to the scheme, so its slots have seven symbols, and all ports have the same MIB
pub record IsSender (four : Bool) (port : Port) : Type 0 where
  pub own : IsPortOf (carrier four) port
  pub seven : port_symbols port ≡ 7
  pub points : (plan : CellPlan) (number i : ℕ) → port_point port plan number i ≡ point_of (sent_bits (sender four 0) plan number) i

pub is_sender : (four : Bool) (p : ℕ) → IsSender four (sender four p)
unfolding port_point port_bit
is_sender false zero = record { own = (refl, omega arith); seven = refl; points = λ plan number i. refl }
is_sender false (suc n) = record { own = (refl, omega arith); seven = refl; points = λ plan number i. refl }
is_sender true zero = record { own = (refl, omega arith); seven = refl; points = λ plan number i. refl }
is_sender true (suc zero) = record { own = (refl, omega arith); seven = refl; points = λ plan number i. refl }
is_sender true (suc (suc zero)) = record { own = (refl, omega arith); seven = refl; points = λ plan number i. refl }
is_sender true (suc (suc (suc n))) = record { own = (refl, omega arith); seven = refl; points = λ plan number i. refl }

-- ---- all ports

-- the received sum over all ports
pub all : (four : Bool) (values : Port → Cpx) (gains : List Cpx) → mixed (carrier four) values gains ≡ received_of (ports_of (carrier four)) (value_at gains) (λ p. values (sender four p))
unfolding sum_below
all false values gains = ap (λ (z : Cpx). plus z (times (value_at gains 1) (values second_port))) (sym (plus-nothing (times (value_at gains 0) (values first_port))))
all true values gains =
    in_turn (times (value_at gains 0) (values (port_of_four 0))) (times (value_at gains 1) (values (port_of_four 1)))
    (times (value_at gains 2) (values (port_of_four 2))) (times (value_at gains 3) (values (port_of_four 3)))
  where
    in_turn : (a b c d : Cpx) → plus (plus a b) (plus c d) ≡ plus (plus (plus (plus nothing a) b) c) d
    in_turn a b c d = sym (plus-associates (plus a b) c d) ∙ ap (λ (z : Cpx). plus (plus (plus z b) c) d) (sym (plus-nothing a))

pub sounds : (four : Bool) (gains : List Cpx) → ArePartGains (carrier four) gains → 2 ^ 28 ≤ energy_below (ports_of (carrier four)) (value_at gains)
sounds false gains are = let least = are.sounds in let same = squares (value_at gains) in omega (arith, least, same)
sounds true gains are = let least = are.sounds in let same = four_squares (value_at gains) in omega (arith, least, same)

-- small errors are within the quota
pub quiet : (four : Bool) (gains : List Cpx) (energy : ℕ) → IsLittle (carrier four) gains energy → energy ≤ quota_of four * energy_below (ports_of (carrier four)) (value_at gains)
quiet false gains energy (all, one) = let same = squares (value_at gains) in omega (arith, all, same)
quiet true gains energy (all, one) = let same = four_squares (value_at gains) in omega (arith, all, same)

-- ---- pairs

-- symbol n of pair i, at one of the pair's ports or another port
point_sent : (four : Bool) (p : ℕ) (points : ℕ → Cpx) (i n : ℕ) → p < ports_of (carrier four) → n / 2 ≡ i →
    sent_point (sender four p) points n ≡ over ((pairing_of four).lower i) ((pairing_of four).upper i) (points n) (crossed_point points n) p
point_sent false zero points i n l e = refl
point_sent false (suc zero) points i n l e = refl
point_sent false (suc (suc p)) points i n l e = absurd (omega (arith, l))
point_sent true zero points i n l e = grind (arith, nat_tests)
point_sent true (suc zero) points i n l e = grind (arith, nat_tests)
point_sent true (suc (suc zero)) points i n l e = grind (arith, nat_tests)
point_sent true (suc (suc (suc zero))) points i n l e = grind (arith, nat_tests)
point_sent true (suc (suc (suc (suc p)))) points i n l e = absurd (omega (arith, l))

-- two resource elements carry a pair if the ports send symbols 2i and 2i + 1 there
pub pair_carried : (four : Bool) (points : ℕ → Cpx) (i : ℕ) (grids : ℕ → ℕ → ℕ → Cpx) (a b : Place) → ((p : ℕ) → grids p (a.symbol % 7) a.k ≡ sent_point (sender four p) points (2 * i)) →
    ((p : ℕ) → grids p (b.symbol % 7) b.k ≡ sent_point (sender four p) points (2 * i + 1)) → CarryPair (pairing_of four) grids i a b (points (2 * i)) (points (2 * i + 1))
pair_carried four points i grids a b first second = record {
  first = λ p below. first p ∙ point_sent four p points i (2 * i) below (omega arith) ∙ ap (λ (z : Cpx). over lower upper (points (2 * i)) z p) even;
  second = λ p below. second p ∙ point_sent four p points i (2 * i + 1) below (omega arith) ∙ ap (λ (z : Cpx). over lower upper (points (2 * i + 1)) z p) odd;
}
  where
    lower : ℕ
    lower = (pairing_of four).lower i

    upper : ℕ
    upper = (pairing_of four).upper i

    even : crossed_point points (2 * i) ≡ negated (conjugate (points (2 * i + 1)))
    even = let e : 2 * i % 2 ≡ 0 = omega arith in rw e refl

    odd : crossed_point points (2 * i + 1) ≡ conjugate (points (2 * i))
    odd =
        let e : (2 * i + 1) % 2 ≡ 1 = omega arith in
        let f : 2 * i + 1 - 1 ≡ 2 * i = omega arith in
        rw (e, f) refl

-- ---- the reference signals

-- the element that a port sends if only port p has a reference signal there
own_or_other : (own any : Bool) (value here : Cpx) (p q : ℕ) → own ≡ nat_eq q p → any ≡ true → value ≡ here → (if own then Some value else (if not own && any then Some nothing else None)) ≡ Some (only p here q)
own_or_other own any value here p q e f g = rw (e, f, g) (by (nat_eq q p) refl)
  where
    by : (b : Bool) → nat_eq q p ≡ b → (if b then Some here else (if not b && true then Some nothing else None)) ≡ Some (only p here q)
    by true at = rw at refl
    by false at = rw at refl

either_of_two : (a b : Bool) (p : ℕ) → p < 2 → a ≡ nat_eq 0 p → b ≡ nat_eq 1 p → (a || (b || false)) ≡ true
either_of_two a b p few e f = rw (e, f) (by p few)
  where
    by : (p : ℕ) → p < 2 → (nat_eq 0 p || (nat_eq 1 p || false)) ≡ true
    by p few = grind (arith, nat_tests)

one_of_four : (a b c d : Bool) (p : ℕ) → p < 4 → a ≡ nat_eq 0 p → b ≡ nat_eq 1 p → c ≡ nat_eq 2 p → d ≡ nat_eq 3 p → (a || (b || (c || (d || false)))) ≡ true
one_of_four a b c d p few e f g h = rw (e, f, g, h) (by p few)
  where
    by : (p : ℕ) → p < 4 → (nat_eq 0 p || (nat_eq 1 p || (nat_eq 2 p || (nat_eq 3 p || false)))) ≡ true
    by p few = grind (arith, nat_tests)

module _ (p identity slot l k : ℕ) (here : Cpx) (at : IsAlone p identity slot l k) (value : reference_at identity slot l k ≡ here) where
  value_is : pattern_reference port_0 identity slot l (k / 6) ≡ here
  value_is = normal_reference identity slot l k ∙ value

  zeroth : is_pattern_place port_0 identity l k ≡ nat_eq 0 p
  zeroth = is_zeroth identity l k ∙ at.zero

  first : is_pattern_place port_1 identity l k ≡ nat_eq 1 p
  first = is_second identity l k ∙ at.one

  decoded_of_two : (q : ℕ) → p < 2 → q < 2 → port_reference_if (sender false q) identity slot l k ≡ Some (only p here q)
  decoded_of_two zero few inside = own_or_other _ _ _ here p 0 zeroth (either_of_two _ _ p few zeroth first) value_is
  decoded_of_two (suc zero) few inside = own_or_other _ _ _ here p 1 first (either_of_two _ _ p few zeroth first) value_is
  decoded_of_two (suc (suc q)) few inside = absurd (omega (arith, inside))

  decoded_of_four : (q : ℕ) → p < 4 → q < 4 → port_reference_if (sender true q) identity slot l k ≡ Some (only p here q)
  decoded_of_four zero few inside = own_or_other _ _ _ here p 0 zeroth (one_of_four _ _ _ _ p few zeroth first at.two at.three) value_is
  decoded_of_four (suc zero) few inside = own_or_other _ _ _ here p 1 first (one_of_four _ _ _ _ p few zeroth first at.two at.three) value_is
  decoded_of_four (suc (suc zero)) few inside = own_or_other _ _ _ here p 2 at.two (one_of_four _ _ _ _ p few zeroth first at.two at.three) value_is
  decoded_of_four (suc (suc (suc zero))) few inside = own_or_other _ _ _ here p 3 at.three (one_of_four _ _ _ _ p few zeroth first at.two at.three) value_is
  decoded_of_four (suc (suc (suc (suc q)))) few inside = absurd (omega (arith, inside))

decoded : (four : Bool) (q p identity slot l k : ℕ) (here : Cpx) → p < ports_of (carrier four) → q < ports_of (carrier four) → IsAlone p identity slot l k → reference_at identity slot l k ≡ here →
    port_reference_if (sender four q) identity slot l k ≡ Some (only p here q)
decoded false q p identity slot l k here few inside at value = decoded_of_two p identity slot l k here at value q few inside
decoded true q p identity slot l k here few inside at value = decoded_of_four p identity slot l k here at value q few inside

-- two ports have the same pilots as the first two among four
same_line : (p : ℕ) (slot : SeenSlot) → line_of FourPorts p slot ≡ line_of TwoPorts p slot
same_line zero slot = refl
same_line (suc zero) slot = refl
same_line (suc (suc n)) slot = refl

-- at a port's pilot the other ports send nothing
pub reference : (four : Bool) (slot : SeenSlot) (p q i : ℕ) → p < ports_of (carrier four) → q < ports_of (carrier four) → let line : Line = line_of (carrier four) p slot in
    port_reference_if (sender four q) slot.identity slot.number (line.symbol i) (line_place line i) ≡ Some (only p (line.sent i) q)
reference false slot p q i few inside =
    subst (λ (line : Line). port_reference_if (sender false q) slot.identity slot.number (line.symbol i) (line_place line i) ≡ Some (only p (line.sent i) q)) (same_line p slot)
    (decoded false q p _ _ _ _ _ few inside (is_alone p slot i (omega (arith, few))) (own_value p slot i))
reference true slot p q i few inside = decoded true q p _ _ _ _ _ few inside (is_alone p slot i few) (own_value p slot i)
