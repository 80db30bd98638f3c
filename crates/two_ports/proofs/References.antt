-- Pilots with four ports: each is its port's own reference signal, and no other port's.
use Rattle.std.proofs.Common.{◌≡◌, ℕ, zero, suc, ◌+◌, ◌*◌, ◌/◌, ◌<◌, Bool, true, false, nat_eq, arith, refl, ap}
use Rattle.std.specs.Prelude.{if◌then◌else◌}
use Rattle.std.proofs.lemmas.Bool.Decides.{nat_tests}
use Rattle.lte_types.specs.declared.carrier.Carrier.TheVariants.{FourPorts}
use Rattle.crs.specs.Reference.{pattern_of, is_reference, is_second_reference, is_upper_reference, is_pattern_place, first_subcarrier, pattern_reference, reference, reference_c_init, reference_at, upper_first}
use Rattle.soft_bits.specs.Lines.{line_of, line_place}
use Rattle.soft_bits.specs.Soft.{SeenSlot, pattern_symbol, pattern_sent, pilot_subcarrier}

-- among four ports, only port p has a reference signal in this resource element
pub record IsAlone (p identity slot l k : ℕ) : Type 0 where
  pub zero : is_reference identity l k ≡ nat_eq 0 p
  pub one : is_second_reference identity l k ≡ nat_eq 1 p
  pub two : is_upper_reference 2 identity slot l k ≡ nat_eq 2 p
  pub three : is_upper_reference 3 identity slot l k ≡ nat_eq 3 p

lower : (p identity slot i k : ℕ) (b : Bool) → p < 2 → k ≡ pilot_subcarrier identity i → is_pattern_place (pattern_of FourPorts p) identity 0 k ≡ b → IsAlone p identity slot (if b then 0 else 4) k
unfolding is_reference first_subcarrier is_second_reference is_upper_reference
lower p identity slot i k true l e is = grind (arith, nat_tests)
lower p identity slot i k false l e is = grind (arith, nat_tests)

upper : (p identity slot m : ℕ) → 1 < p → p < 4 → IsAlone p identity slot 1 (upper_first p identity slot + 6 * m)
unfolding is_reference first_subcarrier is_second_reference is_upper_reference
upper p identity slot m l h = grind (arith, nat_tests)

-- with four ports, each pilot belongs to only one port
pub is_alone : (p : ℕ) (slot : SeenSlot) (i : ℕ) → p < 4 → IsAlone p slot.identity slot.number ((line_of FourPorts p slot).symbol i) (line_place (line_of FourPorts p slot) i)
unfolding pattern_symbol
is_alone zero slot i l = lower 0 slot.identity slot.number i (pilot_subcarrier slot.identity i) _ (omega arith) refl refl
is_alone (suc zero) slot i l = lower 1 slot.identity slot.number i (pilot_subcarrier slot.identity i) _ (omega arith) refl refl
is_alone (suc (suc n)) slot i l = upper (suc (suc n)) slot.identity slot.number i (omega arith) l

-- pilots have the port's reference values
pub own_value : (p : ℕ) (slot : SeenSlot) (i : ℕ) → reference_at slot.identity slot.number ((line_of FourPorts p slot).symbol i) (line_place (line_of FourPorts p slot) i) ≡ (line_of FourPorts p slot).sent i
unfolding pattern_sent pattern_reference reference_at reference reference_c_init
own_value zero slot i = refl
own_value (suc zero) slot i = refl
own_value (suc (suc n)) slot i = ap (reference slot.identity slot.number 1) (let e : (upper_first (suc (suc n)) slot.identity slot.number + 6 * i) / 6 ≡ i = omega arith in e)
