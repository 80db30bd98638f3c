-- Soft values of a channel's resource elements, and descrambling.
use Rattle.std.specs.Prelude.{ℕ, ◌+◌, ◌/◌, ◌%◌, Bool, nat_lt, if◌then◌else◌, List, length, slice_index_or, ℤ}
use Rattle.std.specs.Prelude.{pos, neg_ℤ}
use Rattle.std.specs.List.{flat_map}
use Rattle.finite.specs.Lists.{values_below}
use Rattle.gold.specs.Gold.{gold_bit}
use Rattle.grid_map.specs.declared.Place.{Place}
use Rattle.grid_map.specs.Place.{place}
use Rattle.soft_bits.specs.Soft.{SeenSlot, soft_values}

-- the slot of a subframe that contains `symbol`: the first for symbols 0 to 6, the second for 7 to 13
abbrev pub slot_with : {Slot : Type 0} → Slot → Slot → ℕ → Slot
slot_with first second symbol = if nat_lt symbol 7 then first else second

-- the slot in a subframe that contains a resource element
abbrev pub in_subframe : SeenSlot → SeenSlot → Place → SeenSlot
in_subframe first second p = slot_with first second p.symbol

-- a way to compute the soft values of resource elements, given the slot of each
abbrev pub Valuing : Type 0
Valuing = (Place → SeenSlot) → List Place → List ℤ

-- ---- one antenna port

-- the two soft values of resource element p. Its symbol is numbered 0 to 13 in the subframe; modulo 7, this is the
-- number in the slot.
abbrev pub values_at : SeenSlot → Place → List ℤ
values_at slot p = soft_values slot (p.symbol % 7) p.k

-- the soft values of a list of resource elements, in order
unfoldable pub placed_values : Valuing
placed_values slot places = flat_map (λ p. values_at (slot p) p) places

-- soft value i of a list of resource elements, which has two for each element
abbrev pub placed_value : (Place → SeenSlot) → List Place → ℕ → ℤ
placed_value slot places i =
    let p : Place = slice_index_or places (i / 2) (place 0 0) in slice_index_or (values_at (slot p) p) (i % 2) (pos 0)

-- the soft values of resource elements that are all in one slot
abbrev pub soft_values_of : SeenSlot → List Place → List ℤ
soft_values_of slot places = placed_values (λ p. slot) places

-- ---- scrambling

-- a soft value descrambled with one bit: negated if the bit is 1
abbrev pub descrambled_value : Bool → ℤ → ℤ
descrambled_value bit value = if bit then neg_ℤ value else value

-- soft values descrambled with the sequence `bit`, whose bit `first` belongs to the first value
abbrev pub turned_by : (ℕ → Bool) → ℕ → List ℤ → List ℤ
turned_by bit first values =
    values_below (length values) (λ i. descrambled_value (bit (first + i)) (slice_index_or values i (pos 0)))

-- soft values descrambled with the scrambling sequence for c_init, whose bit `first` belongs to the first value (TS
-- 36.211 sections 7.2, 6.3.1, 6.6.1, 6.7.1 and 6.8.2)
unfoldable pub descrambled : ℕ → ℕ → List ℤ → List ℤ
descrambled c_init first values = turned_by (gold_bit c_init) first values
