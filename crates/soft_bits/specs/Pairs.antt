-- Soft values of resource element pairs under transmit diversity (TS 36.211 section 6.3.4.3, without its factor; the
-- receiver is own), and of resource elements for any number of ports.
use Rattle.std.specs.Prelude.{ℕ, ◌+◌, ◌*◌, ◌/◌, ◌%◌, nat_eq, if◌then◌else◌, List, ◌++◌, ℤ, length, slice_index_or}
use Rattle.finite.specs.Lists.{joined_below}
use Rattle.cs_num.specs.declared.Cpx.{Cpx}
use Rattle.cs_num.specs.Complex.{plus, minus, times, conjugate}
use Rattle.lte_types.specs.declared.carrier.Carrier.{Carrier}
use Rattle.lte_types.specs.declared.carrier.Carrier.TheVariants.{OnePort, TwoPorts, FourPorts}
use Rattle.lte_types.specs.Carrier.{ports_of}
use Rattle.grid_map.specs.declared.Place.{Place}
use Rattle.grid_map.specs.Place.{place}
use Rattle.soft_bits.specs.Lines.{port_channel, ports_energy}
use Rattle.soft_bits.specs.Places.{Valuing, placed_values}
use Rattle.soft_bits.specs.Soft.{SeenSlot, seen_at, soft_pair}

-- the combined amplitude for the first QPSK symbol of a pair, from the values a and b received at its two resource
-- elements over the two ports' channels h and k
abbrev pub first_point : Cpx → Cpx → Cpx → Cpx → Cpx
first_point h k a b = plus (times (conjugate h) a) (times k (conjugate b))

-- the combined amplitude for the second QPSK symbol of a pair, from the values a and b received at its two resource
-- elements over the two ports' channels h and k
abbrev pub second_point : Cpx → Cpx → Cpx → Cpx → Cpx
second_point h k a b = minus (times (conjugate h) b) (times k (conjugate a))

-- a pair's four soft values, two for each QPSK symbol, from its received values a and b, the two ports' channels h and
-- k, and the pilot energy
abbrev pub point_values : Cpx → Cpx → ℕ → Cpx → Cpx → List ℤ
point_values h k energy a b = soft_pair (first_point h k a b) energy ++ soft_pair (second_point h k a b) energy

-- ---- pairings: the ports that send each pair

-- a transmission scheme, the common factor of its ports' channels, and the two ports that send pair i
pub record Pairing : Type 0 where
  pub carrier : Carrier
  pub scale : ℕ
  pub lower : ℕ → ℕ
  pub upper : ℕ → ℕ

-- one port sends all symbols; none are paired
abbrev pub alone : Pairing
alone = record { carrier = OnePort; scale = 3; lower = λ i. 0; upper = λ i. 0 }

-- ports 0 and 1 send each pair
abbrev pub over_two : Pairing
over_two = record { carrier = TwoPorts; scale = 3; lower = λ i. 0; upper = λ i. 1 }

-- ports 0 and 2 send even pairs, and ports 1 and 3 send odd pairs
abbrev pub over_four : Pairing
over_four = record { carrier = FourPorts; scale = 6; lower = λ i. i % 2; upper = λ i. 2 + i % 2 }

-- ---- soft values of pairs

-- the four soft values of pair i, from its two received values and the two ports' channels at subcarrier k
abbrev pub seen_by : Pairing → ℕ → SeenSlot → ℕ → Cpx → Cpx → List ℤ
seen_by pairing i slot k =
    point_values (port_channel pairing.scale pairing.carrier (pairing.lower i) slot k)
    (port_channel pairing.scale pairing.carrier (pairing.upper i) slot k) (ports_energy pairing.carrier slot)

-- the four soft values of pair i, received at elements p and q of a subframe, where symbols 7 to 13 belong to the
-- second slot. The channels are those at p.
unfoldable pub pair_values : Pairing → ℕ → SeenSlot → Place → Place → List ℤ
pair_values pairing i slot p q =
    seen_by pairing i slot p.k (seen_at slot (p.symbol % 7) p.k) (seen_at slot (q.symbol % 7) q.k)

-- the four soft values of pair i, which is sent at elements 2i and 2i + 1 of `places`; `slot` gives the slot of an
-- element
abbrev pub pair_at : Pairing → (Place → SeenSlot) → List Place → ℕ → List ℤ
pair_at pairing slot places i =
    let first = slice_index_or places (2 * i) (place 0 0) in
    pair_values pairing i (slot first) first (slice_index_or places (2 * i + 1) (place 0 0))

-- the soft values of all pairs of resource elements, in order
unfoldable pub paired_by : Pairing → Valuing
paired_by pairing slot places = joined_below (length places / 2) (pair_at pairing slot places)

-- ---- one port or several

-- the method that computes soft values: element by element for one port, pair by pair for several
abbrev pub values_over : Carrier → Pairing → Valuing
values_over carrier pairing = if nat_eq (ports_of carrier) 1 then placed_values else paired_by pairing

-- the method that computes soft values for a pairing
abbrev pub valued_by : Pairing → Valuing
valued_by pairing = values_over pairing.carrier pairing
