-- A port has the normal or the extended cyclic prefix.
use Rattle.std.proofs.Common.{◌≡◌, inl, inr, refl, sym, subst}
use Rattle.lte_types.specs.declared.numerology.Prefix.{Prefix}
use Rattle.lte_types.specs.Numerology.{normal, extended, IsPrefix}
use Rattle.lte_types.specs.declared.carrier.Carrier.{Carrier}
use Rattle.lte_types.specs.declared.carrier.Carrier.TheVariants.{OnePort, TwoPorts, LongPrefix, FourPorts}
use Rattle.lte_types.specs.Carrier.{prefix_of}
use Rattle.cell_grid.specs.declared.antenna.Port.{Port}
use Rattle.cell_grid.specs.Ports.{port_prefix}

pub prefix_known : (carrier : Carrier) → IsPrefix (prefix_of carrier)
prefix_known OnePort = inl refl
prefix_known TwoPorts = inl refl
prefix_known LongPrefix = inr refl
prefix_known FourPorts = inl refl

pub port_prefix_known : (port : Port) → IsPrefix (port_prefix port)
port_prefix_known port = prefix_known port.carrier

-- what holds for both prefixes holds for each
pub with_prefix : (P : Prefix → Type 0) → P normal → P extended → (prefix : Prefix) → IsPrefix prefix → P prefix
with_prefix P a b prefix (inl e) = subst P (sym e) a
with_prefix P a b prefix (inr e) = subst P (sym e) b
