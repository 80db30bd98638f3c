-- The power of a scheme's gains, and its bound.
use Rattle.std.proofs.Common.{◌≡◌, ℕ, ◌+◌, ◌≤◌, ◌/◌, arith, List}
use Rattle.std.specs.Prelude.{nat_lt, if◌then◌else◌}
use Rattle.finite.specs.Sums.{total_below}
use Rattle.cs_num.specs.declared.Cpx.{Cpx}
use Rattle.cs_num.specs.Complex.{square, value_at}
use Rattle.lte_types.specs.declared.carrier.Carrier.{Carrier}
use Rattle.lte_types.specs.declared.carrier.Carrier.TheVariants.{OnePort, TwoPorts, LongPrefix, FourPorts}
use Rattle.lte_types.specs.Carrier.{ports_of}
use Rattle.cell_plan.specs.Gains.{AreGainsOf, power_of}
use Rattle.cell_plan.specs.Laws.{GainsAreTogether}

-- the square of a port's gain, or 0 if the scheme does not have the port
abbrev pub part : Carrier → List Cpx → ℕ → ℕ
part carrier gains port = if nat_lt port (ports_of carrier) then square (value_at gains port) else 0

pub in_four_parts : (carrier : Carrier) (gains : List Cpx) →
    power_of carrier gains ≡ square (value_at gains 0) + part carrier gains 1 + part carrier gains 2 + part carrier gains 3
unfolding total_below
in_four_parts OnePort gains = omega arith
in_four_parts TwoPorts gains = omega arith
in_four_parts LongPrefix gains = omega arith
in_four_parts FourPorts gains = omega arith

pub gains_are_together : GainsAreTogether
unfolding total_below
gains_are_together carrier gains = (there carrier, back carrier)
  where
    there : (c : Carrier) → AreGainsOf c gains → (1 ≤ square (value_at gains 0)) × (power_of c gains ≤ 784 / ports_of c)
    there OnePort are = let m = are.most in (are.least, omega (arith, m))
    there TwoPorts are = let m = are.most in (are.least, omega (arith, m))
    there LongPrefix are = let m = are.most in (are.least, omega (arith, m))
    there FourPorts are = let m = are.most in (are.least, omega (arith, m))

    back : (c : Carrier) → (1 ≤ square (value_at gains 0)) × (power_of c gains ≤ 784 / ports_of c) → AreGainsOf c gains
    back OnePort h = let m = h.1 in record { least = h.0; most = omega (arith, m) }
    back TwoPorts h = let m = h.1 in record { least = h.0; most = omega (arith, m) }
    back LongPrefix h = let m = h.1 in record { least = h.0; most = omega (arith, m) }
    back FourPorts h = let m = h.1 in record { least = h.0; most = omega (arith, m) }
