-- Every transmission scheme is in the list.
use Rattle.std.proofs.Common.{arith, refl}
use Rattle.std.specs.List.{Contains}
use Rattle.lte_types.specs.declared.carrier.Carrier.{Carrier}
use Rattle.lte_types.specs.declared.carrier.Carrier.TheVariants.{OnePort, TwoPorts, LongPrefix, FourPorts}
use Rattle.lte_types.specs.Carrier.{carriers}

pub each_stands : (carrier : Carrier) → Contains carriers carrier
each_stands OnePort = (0, omega arith, refl)
each_stands TwoPorts = (1, omega arith, refl)
each_stands LongPrefix = (2, omega arith, refl)
each_stands FourPorts = (3, omega arith, refl)
