-- The soft values of bits that are sent in a slot's resource elements have the bits' signs. If the bits are a
-- codeword's scrambled bits, the values determine only the codeword's information word. (own; the coding is in TS
-- 36.212 sections 5.1.3.1 and 5.1.4.2, the scrambling in TS 36.211 section 7.2)
use Rattle.std.specs.Prelude.{◌≡◌, ℕ, ◌+◌, ◌*◌, ◌%◌, ◌<◌, ◌≤◌, Bool, All, List, length, slice_index_or, ℤ, pos}
use Rattle.cs_num.specs.declared.Cpx.{Cpx}
use Rattle.cs_bits.specs.Signs.{Supports}
use Rattle.grid_map.specs.declared.Place.{Place}
use Rattle.grid_map.specs.Place.{place}
use Rattle.conv_code.specs.Reading.{summed_from}
use Rattle.soft_bits.specs.Soft.{SeenSlot}
use Rattle.soft_bits.specs.Places.{values_at, placed_values, soft_values_of, descrambled}
use Rattle.cell_grid.specs.Points.{scrambled, point_of}
use Rattle.cell_grid.specs.Block.{scrambled_bit}
use Rattle.clean_air.specs.Values.{SupportBoth, IsSlotHeard}
use Rattle.clean_air.specs.Words.{IsOnlyWord}
use Rattle.lte_types.specs.Numerology.{subcarriers}

-- ---- words

-- Soft value `i` has the sign of the codeword's scrambled bit `first` + `i`, read cyclically. `enough`: there are at
-- least as many values as coded bits.
pub record SpeakOfWord (c_init first : ℕ) (word : List Bool) (values : List ℤ) : Type 0 where
  pub enough : 3 * length word ≤ length values
  pub value : (i : ℕ) → i < length values →
      Supports 1 (scrambled_bit c_init word (first + i)) (slice_index_or values i (pos 0))

-- the sums, for each coded bit, of its descrambled soft values; the values are in sending order from bit `first`, and
-- `size` is the information word's length
abbrev pub sums_of : ℕ → ℕ → ℕ → List ℤ → List (List ℤ)
sums_of c_init first size values = summed_from first size (descrambled c_init first values)

-- a law: at least 3n soft values with the signs of an n-bit word's scrambled bits, n from 6 to 64, determine only that
-- word, by their sums
abbrev pub SentWordIsOnly : Type 0
SentWordIsOnly =
    (c_init first : ℕ) (word : List Bool) (values : List ℤ) → 6 ≤ length word → length word ≤ 64 →
    SpeakOfWord c_init first word values →
    IsOnlyWord (sums_of c_init first (length word) values) word

-- ---- resource elements and their soft values

-- there are `count` soft values, each with the sign of its bit and a magnitude of at least `least`
pub record AreHeard (least count : ℕ) (bits : ℕ → Bool) (values : List ℤ) : Type 0 where
  pub size : length values ≡ count
  pub value : (i : ℕ) → i < count → Supports least (bits i) (slice_index_or values i (pos 0))

-- each resource element in `places`, in the slot that `slot` assigns to the element, has two soft values with the signs
-- of the element's two bits (QPSK, TS 36.211 section 7.1.2)
abbrev pub ArePlacesHeardIn : (Place → SeenSlot) → List Place → (ℕ → Bool) → Type 0
ArePlacesHeardIn slot places bits = (i : ℕ) → i < length places →
    let p = slice_index_or places i (place 0 0) in
    SupportBoth 1 (bits (2 * i)) (bits (2 * i + 1)) (values_at (slot p) p)

-- each resource element in `places`, all in one slot, has two soft values with the signs of the element's two bits
abbrev pub ArePlacesHeard : SeenSlot → List Place → (ℕ → Bool) → Type 0
ArePlacesHeard slot places bits = ArePlacesHeardIn (λ p. slot) places bits

-- a law: if each resource element's two soft values have its bits' signs, so do the soft values of all elements in
-- sequence
abbrev pub ValuesOfPlacesAreHeard : Type 0
ValuesOfPlacesAreHeard = (slot : Place → SeenSlot) (places : List Place) (bits : ℕ → Bool) →
    ArePlacesHeardIn slot places bits → AreHeard 1 (2 * length places) bits (placed_values slot places)

-- a law: descrambled soft values have the signs of the bits before scrambling
abbrev pub DescrambledBitsAreHeard : Type 0
DescrambledBitsAreHeard = (least count c_init : ℕ) (bits : ℕ → Bool) (values : List ℤ) →
    AreHeard least count (scrambled c_init bits) values → AreHeard least count bits (descrambled c_init 0 values)

-- ---- resource elements of a grid

-- the resource elements `places` of a slot carry `bits`, two in each, as QPSK symbols
abbrev pub CarryBits : (ℕ → ℕ → Cpx) → List Place → (ℕ → Bool) → Type 0
CarryBits grids places bits = (i : ℕ) → i < length places →
    let p = slice_index_or places i (place 0 0) in grids (p.symbol % 7) p.k ≡ point_of bits i

-- the resource elements `places` of a slot carry a codeword's scrambled bits from bit `first`
abbrev pub CarryWord : (ℕ → ℕ → Cpx) → List Place → ℕ → ℕ → List Bool → Type 0
CarryWord grids places c_init first word = CarryBits grids places (λ n. scrambled_bit c_init word (first + n))

-- a law: in a slot with correct soft values, the soft values of resource elements that carry bits have the bits' signs
abbrev pub CarriedBitsAreHeard : Type 0
CarriedBitsAreHeard =
    (grids : ℕ → ℕ → Cpx) (slot : SeenSlot) (places : List Place) (bits : ℕ → Bool) → IsSlotHeard grids slot →
    All (λ p. p.k < subcarriers) places → CarryBits grids places bits →
    AreHeard 1 (2 * length places) bits (soft_values_of slot places)
