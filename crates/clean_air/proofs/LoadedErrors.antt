-- A recording that is clean for a cell, whatever else the cell sends, is faithful to it, with each gain in units of
-- 2^-14: its errors have little energy.
use Rattle.std.proofs.Common.{◌≡◌, ℕ, ◌+◌, ◌*◌, ◌^◌, ◌/◌, ◌<◌, ◌≤◌, Bool, true, false, arith, inl, inr, ap, ap₂, sym, subst, ◌∙◌, List, map}
use Rattle.std.specs.Prelude.{MatchBool}
use Rattle.std.proofs.Math.ListN.{get_or-map}
use Rattle.std.proofs.lemmas.Bool.Decides.{nat_tests}
use Rattle.cs_num.specs.declared.Cpx.{Cpx}
use Rattle.cs_num.specs.Complex.{nothing, plus, minus, times, square, value_at}
use Rattle.norms.proofs.Algebra.{multiple-plus, multiple-times}
use Rattle.norms.proofs.Cauchy.{energy_same}
use Rattle.budget.specs.Received.{in_parts, off_by, samples_from}
use Rattle.budget.proofs.Parts.{square_in_parts, errors_have_energy}
use Rattle.lte_types.specs.declared.carrier.Carrier.{Carrier}
use Rattle.lte_types.specs.declared.carrier.Carrier.TheVariants.{OnePort, TwoPorts, LongPrefix, FourPorts}
use Rattle.lte_types.specs.Carrier.{prefix_of, has_control_by}
use Rattle.lte_types.specs.Numerology.{symbols_of_slot, useful_start}
use Rattle.cell_grid.specs.declared.antenna.Port.{Port}
use Rattle.cell_grid.specs.Ports.{only_port, first_port, second_port, long_port, port_of_four, port_prefix}
use Rattle.cell_plan.specs.Gains.{AreGainsOf, IsAllowedBy}
use Rattle.cell_tx.specs.Emission.{mixed}
use Rattle.cell_tx.specs.Sent.{prefix_sent}
use Rattle.cell_tx.proofs.Symbols.{in_useful}
use Rattle.clean_air.specs.Load.{received_from}
use Rattle.clean_air.specs.Faithful.{ArePartGains, IsLittle, first_frame_of, even_frame_of, IsOfSystem, IsLookedAt, errors_from, LoadedHasLittleErrors, LoadedIsFaithful}
use Rattle.clean_air.proofs.SentSymbols.{prefix_known}

-- ---- units of 2^-14

gain_in_parts : (gains : List Cpx) (i : ℕ) → value_at (map in_parts gains) i ≡ in_parts (value_at gains i)
gain_in_parts gains i = get_or-map in_parts gains i nothing

gain_square : (gains : List Cpx) (i : ℕ) → square (value_at (map in_parts gains) i) ≡ 268435456 * square (value_at gains i)
gain_square gains i = ap (λ (z : Cpx). square z) (gain_in_parts gains i) ∙ square_in_parts (value_at gains i)

module _ (values : Port → Cpx) (gains : List Cpx) where
  abbrev of_port : ℕ → Port → Cpx
  of_port i port = times (value_at gains i) (values port)

  port_in_parts : (i : ℕ) (port : Port) → times (value_at (map in_parts gains) i) (values port) ≡ in_parts (of_port i port)
  port_in_parts i port = ap (λ (g : Cpx). times g (values port)) (gain_in_parts gains i) ∙ multiple-times 16384 (value_at gains i) (values port)

  both_in_parts : (a b c d : Cpx) → a ≡ in_parts c → b ≡ in_parts d → plus a b ≡ in_parts (plus c d)
  both_in_parts a b c d e f = ap₂ plus e f ∙ sym (multiple-plus 16384 c d)

  ports_in_parts : (i m : ℕ) (port other : Port) →
      plus (times (value_at (map in_parts gains) i) (values port)) (times (value_at (map in_parts gains) m) (values other)) ≡ in_parts (plus (of_port i port) (of_port m other))
  ports_in_parts i m port other = both_in_parts _ _ (of_port i port) (of_port m other) (port_in_parts i port) (port_in_parts m other)

  -- with gains in units of 2^-14, so is the received sum
  mixed_in_parts : (carrier : Carrier) → mixed carrier values (map in_parts gains) ≡ in_parts (mixed carrier values gains)
  mixed_in_parts OnePort = port_in_parts 0 only_port
  mixed_in_parts TwoPorts = ports_in_parts 0 1 first_port second_port
  mixed_in_parts LongPrefix = port_in_parts 0 long_port
  mixed_in_parts FourPorts =
      both_in_parts _ _ (plus (of_port 0 (port_of_four 0)) (of_port 1 (port_of_four 1))) (plus (of_port 2 (port_of_four 2)) (of_port 3 (port_of_four 3)))
      (ports_in_parts 0 1 (port_of_four 0) (port_of_four 1)) (ports_in_parts 2 3 (port_of_four 2) (port_of_four 3))

-- ---- the error energy

pub loaded_has_little_errors : LoadedHasLittleErrors
loaded_has_little_errors carrier recording plan grids sfn offset gains eps start clean inside =
    let received : ℕ → Cpx = λ n. received_from carrier grids sfn offset gains (start + n) in
    subst (λ (energy : ℕ). energy ≤ 2 ^ 36 * (eps * eps))
    (energy_same 128 (off_by (samples_from recording start) (λ n. in_parts (received n))) (off_by (samples_from recording start) (λ n. received_from carrier grids sfn offset (map in_parts gains) (start + n)))
    (λ n c. ap (minus (in_parts (samples_from recording start n))) (sym (mixed_in_parts (λ port. prefix_sent (port_prefix port) (grids port) sfn (start + n + offset)) gains carrier))))
    (errors_have_energy eps received (samples_from recording start) (λ n c. clean.near (start + n) (omega (arith, inside, c))))

-- ---- relative to the gains, whose squares are 2^28 times as large in units of 2^-14

some_part : (w p : ℕ) → p ≡ 268435456 * w → 1 ≤ w → 2 ^ 28 ≤ p
some_part w p e some = omega (arith, e, some)

one_little : (w p q energy : ℕ) → p ≡ 268435456 * w → q ≤ 4 * w → energy ≤ 2 ^ 36 * q → energy ≤ 1800 * p
one_little w p q energy e bound small = omega (arith, e, bound, small)

two_little : (w x p r q energy : ℕ) → p ≡ 268435456 * w → r ≡ 268435456 * x → 4 * q ≤ w + x → energy ≤ 2 ^ 36 * q → energy ≤ 400 * (p + r)
two_little w x p r q energy e f bound small = omega (arith, e, f, bound, small)

module _ (a b c d p q r s : ℕ) (e : p ≡ 268435456 * a) (f : q ≡ 268435456 * b) (g : r ≡ 268435456 * c) (h : s ≡ 268435456 * d) where
  even_paired : 3 * (a + b + c + d) ≤ 8 * (a + c) → 3 * (p + q + r + s) ≤ 8 * (p + r)
  even_paired bound = omega (arith, e, f, g, h, bound)

  odd_paired : 3 * (a + b + c + d) ≤ 8 * (b + d) → 3 * (p + q + r + s) ≤ 8 * (q + s)
  odd_paired bound = omega (arith, e, f, g, h, bound)

  four_little : (n energy : ℕ) → 64 * n ≤ a + b + c + d → energy ≤ 2 ^ 36 * n → energy ≤ 7 * (p + q + r + s)
  four_little n energy bound small = omega (arith, e, f, g, h, bound, small)

  first_of_four : (n : ℕ) → 1 ≤ a → a + b + c + d ≤ 196 → 64 * n ≤ a + b + c + d → n ≤ 4 * a
  first_of_four n some most bound = omega (arith, some, most, bound)

module _ (gains : List Cpx) where
  abbrev own : ℕ → ℕ
  own i = square (value_at gains i)

  abbrev part : ℕ → ℕ
  part i = square (value_at (map in_parts gains) i)

  is : (i : ℕ) → part i ≡ 268435456 * own i
  is i = gain_square gains i

  part_gains : (carrier : Carrier) (eps : ℕ) → AreGainsOf carrier gains → IsAllowedBy carrier gains eps → ArePartGains carrier (map in_parts gains)
  part_gains OnePort eps are bound = record { sounds = some_part (own 0) (part 0) (is 0) are.least; paired = tt }
  part_gains TwoPorts eps are bound = record { sounds = some_part (own 0) (part 0) (is 0) are.least; paired = tt }
  part_gains LongPrefix eps are bound = record { sounds = some_part (own 0) (part 0) (is 0) are.least; paired = tt }
  part_gains FourPorts eps are bound = record {
    sounds = some_part (own 0) (part 0) (is 0) are.least;
    paired = record {
      even = even_paired (own 0) (own 1) (own 2) (own 3) (part 0) (part 1) (part 2) (part 3) (is 0) (is 1) (is 2) (is 3) bound.pairs.even;
      odd = odd_paired (own 0) (own 1) (own 2) (own 3) (part 0) (part 1) (part 2) (part 3) (is 0) (is 1) (is 2) (is 3) bound.pairs.odd;
    };
  }

  little : (carrier : Carrier) (eps energy : ℕ) → AreGainsOf carrier gains → IsAllowedBy carrier gains eps → energy ≤ 2 ^ 36 * (eps * eps) → IsLittle carrier (map in_parts gains) energy
  little OnePort eps energy are bound small = one_little (own 0) (part 0) (eps * eps) energy (is 0) bound small
  little TwoPorts eps energy are bound small =
      (two_little (own 0) (own 1) (part 0) (part 1) (eps * eps) energy (is 0) (is 1) bound.both small, one_little (own 0) (part 0) (eps * eps) energy (is 0) bound.one small)
  little LongPrefix eps energy are bound small = one_little (own 0) (part 0) (eps * eps) energy (is 0) bound small
  little FourPorts eps energy are bound small = (
    four_little (own 0) (own 1) (own 2) (own 3) (part 0) (part 1) (part 2) (part 3) (is 0) (is 1) (is 2) (is 3) (eps * eps) energy bound.quiet small,
    one_little (own 0) (part 0) (eps * eps) energy (is 0)
        (first_of_four (own 0) (own 1) (own 2) (own 3) (part 0) (part 1) (part 2) (part 3) (is 0) (is 1) (is 2) (is 3) (eps * eps) are.least are.most bound.quiet) small,
  )

-- ---- symbols that are read

first_small : (offset : ℕ) → first_frame_of offset ≤ 1
first_small offset = grind (arith, nat_tests)

frame_small : (sfn offset frame : ℕ) (Rest : Type 0) (sent : Bool) → MatchBool sent ((frame ≡ even_frame_of sfn offset) × Rest) ⊥ → frame ≤ 2
frame_small sfn offset frame Rest true is = let first = first_small offset in omega (arith, first, is.0)
frame_small sfn offset frame Rest false is = absurd is

system_frame : (carrier : Carrier) (sfn offset frame slot : ℕ) → IsOfSystem carrier sfn offset frame slot → frame ≤ 2
system_frame carrier sfn offset frame slot is = frame_small sfn offset frame (slot / 2 ≡ 5) (has_control_by carrier) is

-- symbols that are read all lie in the first three frames that are sent, and so in the recording
pub looked_inside : (carrier : Carrier) (sfn offset frame slot symbol start : ℕ) → slot < 20 → symbol < symbols_of_slot (prefix_of carrier) →
    start + offset ≡ 19200 * frame + useful_start (prefix_of carrier) 0 slot symbol → IsLookedAt carrier sfn offset frame slot symbol start → start + 128 ≤ 57600
looked_inside carrier sfn offset frame slot symbol start few row place looked = elim looked [
  | inl master ↦ let first = first_small offset in early (omega (arith, first, master.0))
  | inr (inl system) ↦ early (system_frame carrier sfn offset frame slot system)
  | inr (inr (inl primary)) ↦ omega (arith, primary.to_last)
  | inr (inr (inr secondary)) ↦ omega (arith, secondary.to_last)
]
  where
    early : frame ≤ 2 → start + 128 ≤ 57600
    early low =
        let inside = (in_useful (prefix_of carrier) symbol 127 (prefix_known carrier) row (omega arith)).inside in
        omega (arith, place, inside, few, low)

pub loaded_is_faithful : LoadedIsFaithful
loaded_is_faithful carrier recording plan grids sfn offset gains eps long clean = record {
  number = clean.number;
  within = clean.within;
  carries = clean.carries;
  gains_are = part_gains gains carrier eps clean.gains_are clean.bound;
  near = λ frame slot symbol start few row place looked.
      let inside = looked_inside carrier sfn offset frame slot symbol start few row place looked in
      little gains carrier eps (errors_from carrier recording grids sfn offset (map in_parts gains) start) clean.gains_are clean.bound
      (loaded_has_little_errors carrier recording plan grids sfn offset gains eps start clean (omega (arith, long, inside)));
}
