-- Soft values of resource elements in a subframe of a cell with one, two or four antenna ports. (own; pairs: TS 36.211
-- section 6.3.4.3, without its factor)
use Rattle.std.specs.Prelude.{◌≡◌, ◌⊎◌, ℕ, ◌+◌, ◌*◌, ◌/◌, ◌%◌, nat_eq, if◌then◌else◌, List, [], ◌∷◌, ◌++◌, length, slice_index_or, ℤ, pos, ◌*ℤ◌, int_div}
use Rattle.finite.specs.Lists.{joined_below}
use Rattle.cs_num.specs.declared.Cpx.{Cpx}
use Rattle.cs_num.specs.Complex.{times, conjugate}
use Rattle.cs_num.specs.Rounding.{clamped}
use Rattle.soft_bits.specs.Pairs.{first_point, second_point}
use Rattle.soft_bits.specs.Places.{slot_with}
use Rattle.soft_bits.specs.Soft.{seen_at}
use Rattle.wide_cell.specs.declared.place.WidePlace.{WidePlace}
use Rattle.wide_cell.specs.Place.{place}
use Rattle.wide_slot.specs.Lines.{total_weight}
use Rattle.wide_slot.specs.Slot.{WideSeen, port_channel, ports_energy}

-- `blocks` times a component, divided by an energy, rounded toward zero and clamped to -127 to 127; 0 if the energy
-- is 0
abbrev pub wide_value : ℕ → ℕ → ℤ → ℤ
wide_value blocks energy component =
    if nat_eq energy 0 then pos 0 else clamped (int_div (pos blocks *ℤ component) (pos energy)) 127

-- a slot's pilot energy, times the sum of the weights by which its channels are smoothed
abbrev pub weighted_energy : WideSeen → ℕ
weighted_energy seen = total_weight seen.weights * ports_energy seen

-- an amplitude's two soft values: real part, then imaginary part
abbrev pub wide_pair : WideSeen → Cpx → List ℤ
wide_pair seen amplitude =
    wide_value seen.cell.blocks (weighted_energy seen) amplitude.re
    ∷ wide_value seen.cell.blocks (weighted_energy seen) amplitude.im ∷ []

-- the value received at a resource element of a subframe, in the slot that contains the element
abbrev pub received : WideSeen → WidePlace → Cpx
received seen p = seen_at seen.slot (p.symbol % 7) p.k

-- ---- one antenna port

-- a resource element's two soft values
unfoldable pub place_values : WideSeen → WidePlace → List ℤ
place_values seen p = wide_pair seen (times (received seen p) (conjugate (port_channel seen 0 p.k)))

-- ---- two or four antenna ports: elements 2i and 2i + 1 of a list are pair i; if there are four ports, 0 and 2 send
-- even pairs, and 1 and 3 odd pairs

-- two or four antenna ports
abbrev pub IsSeveral : ℕ → Type 0
IsSeveral ports = (ports ≡ 2) ⊎ (ports ≡ 4)

-- the port that sends the first symbol of pair i at the first element
abbrev pub lower_port : ℕ → ℕ → ℕ
lower_port ports i = if nat_eq ports 4 then i % 2 else 0

-- the port that sends the second symbol of pair i at the first element, as a conjugate
abbrev pub upper_port : ℕ → ℕ → ℕ
upper_port ports i = if nat_eq ports 4 then 2 + i % 2 else 1

-- the four soft values of a pair, received as a and b over the channels h and g
abbrev pub point_values : WideSeen → Cpx → Cpx → Cpx → Cpx → List ℤ
point_values seen h g a b = wide_pair seen (first_point h g a b) ++ wide_pair seen (second_point h g a b)

-- the four soft values of pair i at the elements p and q; the channels are those at p
unfoldable pub pair_values : WideSeen → ℕ → WidePlace → WidePlace → List ℤ
pair_values seen i p q =
    point_values seen (port_channel seen (lower_port seen.cell.ports i) p.k)
    (port_channel seen (upper_port seen.cell.ports i) p.k) (received seen p) (received seen q)

-- ---- a list of elements; symbols 7 to 13 are in the second slot

-- element i of a list of resource elements
abbrev pub place_at : List WidePlace → ℕ → WidePlace
place_at places i = slice_index_or places i (place 0 0)

-- the two soft values of element i of a list, with one antenna port, in a subframe with a first and a second slot
abbrev pub single_at : WideSeen → WideSeen → List WidePlace → ℕ → List ℤ
single_at first second places i =
    place_values (slot_with first second (place_at places i).symbol) (place_at places i)

-- the four soft values of pair i of a list, with several antenna ports, in a subframe with a first and a second slot
abbrev pub paired_at : WideSeen → WideSeen → List WidePlace → ℕ → List ℤ
paired_at first second places i =
    pair_values (slot_with first second (place_at places (2 * i)).symbol) i (place_at places (2 * i))
    (place_at places (2 * i + 1))

-- the soft values of a list of resource elements, in a subframe with a first and a second slot
unfoldable pub placed_values : WideSeen → WideSeen → List WidePlace → List ℤ
placed_values first second places =
    if nat_eq first.cell.ports 1 then joined_below (length places) (single_at first second places)
    else joined_below (length places / 2) (paired_at first second places)
