-- Transmission schemes (TS 36.211 sections 6.3.4.3 and 6.12).
use Rattle.std.specs.Prelude.{ℕ, Bool, not, ◌&&◌, nat_le, List, ◌∷◌, []}
use Rattle.lte_types.specs.declared.carrier.Carrier.{Carrier}
use Rattle.lte_types.specs.declared.carrier.Carrier.TheVariants.{OnePort, TwoPorts, LongPrefix, FourPorts}
use Rattle.lte_types.specs.declared.numerology.Prefix.{Prefix}
use Rattle.lte_types.specs.Numerology.{normal, extended, is_extended}

-- a transmission scheme's cyclic prefix
abbrev pub prefix_of : Carrier → Prefix
prefix_of OnePort = normal
prefix_of TwoPorts = normal
prefix_of LongPrefix = extended
prefix_of FourPorts = normal

-- a transmission scheme's port count
abbrev pub ports_of : Carrier → ℕ
ports_of OnePort = 1
ports_of TwoPorts = 2
ports_of LongPrefix = 1
ports_of FourPorts = 4

-- whether the control region and SIB1 are supported for a transmission scheme: only with the normal prefix and at most
-- two ports (own)
abbrev pub has_control_by : Carrier → Bool
has_control_by carrier = not (is_extended (prefix_of carrier)) && nat_le (ports_of carrier) 2

-- all transmission schemes, in the order in which their cells are listed
abbrev pub carriers : List Carrier
carriers = OnePort ∷ TwoPorts ∷ LongPrefix ∷ FourPorts ∷ []
