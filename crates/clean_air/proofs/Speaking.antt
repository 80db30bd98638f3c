-- The soft values of resource elements that carry bits have the bits' signs; if these are a word's scrambled bits, the
-- values determine the word.
use Rattle.std.proofs.Common.{◌≡◌, ℕ, ◌+◌, ◌*◌, ◌/◌, ◌%◌, ◌<◌, ◌≤◌, ◌⊎◌, inl, inr, arith, sym, ◌∙◌, subst, Bool, List, length, get_or, ℤ, pos}
use Rattle.std.proofs.lemmas.Bool.{cases_lt}
use Rattle.std.specs.Prelude.{All}
use Rattle.cs_num.specs.declared.Cpx.{Cpx}
use Rattle.gold.specs.Gold.{gold_bit}
use Rattle.conv_code.specs.Code.{coded_word}
use Rattle.conv_code.specs.Reading.{bit_of_item, item_of}
use Rattle.conv_code.proofs.Sums.{length-summed_by}
use Rattle.cs_bits.specs.Signs.{Supports}
use Rattle.cs_bits.proofs.Signs.{supports-less}
use Rattle.tailbite.specs.Clean.{Speaks}
use Rattle.grid_map.specs.declared.Place.{Place}
use Rattle.grid_map.specs.Place.{place}
use Rattle.soft_bits.specs.Soft.{SeenSlot}
use Rattle.soft_bits.specs.Places.{values_at, placed_values, descrambled, descrambled_value}
use Rattle.soft_bits.proofs.Channel.{length-placed, placed-at, length-descrambled, descrambled-at}
use Rattle.cell_grid.specs.Points.{scrambled}
use Rattle.cell_grid.specs.Block.{scrambled_bit}
use Rattle.clean_air.specs.Values.{SupportBoth, IsSlotHeard}
use Rattle.clean_air.specs.Words.{SpeakInOrderFrom}
use Rattle.clean_air.specs.Carried.{SpeakOfWord, AreHeard, sums_of, SentWordIsOnly, ArePlacesHeardIn, ArePlacesHeard, ValuesOfPlacesAreHeard, DescrambledBitsAreHeard, CarryBits, CarriedBitsAreHeard}
use Rattle.clean_air.proofs.SpokenWords.{descrambling_keeps, sums_speak_from, spoken_word_is_only}

-- ---- values in reading order

in_order : (c_init first : ℕ) (word : List Bool) (values : List ℤ) → SpeakOfWord c_init first word values → SpeakInOrderFrom first word (descrambled c_init first values)
in_order c_init first word values s = record {
  enough = omega (arith, s.enough, length-descrambled c_init first values);
  value = λ i l.
      let inside : i < length values = omega (arith, l, length-descrambled c_init first values) in
      subst (Supports 1 (bit_of_item (coded_word word) (item_of (length word) (first + i)))) (sym (descrambled-at c_init first values i inside))
      (descrambling_keeps 1 (bit_of_item (coded_word word) (item_of (length word) (first + i))) (gold_bit c_init (first + i)) (get_or values i (pos 0)) (s.value i inside));
}

-- enough values with the signs of a word's scrambled bits determine it
pub heard_bits_speak : (least count c_init first : ℕ) (word : List Bool) (values : List ℤ) → 1 ≤ least → 3 * length word ≤ count →
    AreHeard least count (λ n. scrambled_bit c_init word (first + n)) values → SpeakOfWord c_init first word values
heard_bits_speak least count c_init first word values some enough heard =
    let size = heard.size in
    record {
      enough = omega (arith, size, enough);
      value = λ i l. supports-less 1 least (scrambled_bit c_init word (first + i)) (get_or values i (pos 0)) some (heard.value i (omega (arith, size, l)));
    }

pub sums_speak_all : (c_init first : ℕ) (word : List Bool) (values : List ℤ) → 6 ≤ length word → length word ≤ 64 → SpeakOfWord c_init first word values →
    Speaks (sums_of c_init first (length word) values) word
sums_speak_all c_init first word values low high speaks = sums_speak_from first word (descrambled c_init first values) low high (in_order c_init first word values speaks)

pub sent_word_is_only : SentWordIsOnly
sent_word_is_only c_init first word values low high speaks =
    let size = length-summed_by (λ i. item_of (length word) (first + i)) (length word) (descrambled c_init first values) in
    spoken_word_is_only (sums_of c_init first (length word) values) word (omega (arith, low, size)) (sym size) (sums_speak_all c_init first word values low high speaks)

-- ---- the soft values of resource elements

even_or_odd : (i : ℕ) → ((i % 2 ≡ 0) × (2 * (i / 2) ≡ i)) ⊎ ((i % 2 ≡ 1) × (2 * (i / 2) + 1 ≡ i))
even_or_odd i = elim (cases_lt (i % 2) 1) [
  | inl h ↦ inl (omega arith, omega arith)
  | inr h ↦ inr (omega arith, omega arith)
]

-- one of a resource element's two values
pub one_value : {least : ℕ} (values : List ℤ) (i : ℕ) (bits : ℕ → Bool) → SupportBoth least (bits (2 * (i / 2))) (bits (2 * (i / 2) + 1)) values →
    Supports least (bits i) (get_or values (i % 2) (pos 0))
one_value {least} values i bits both = elim (even_or_odd i) [
  | inl (place, index) ↦ subst (λ (n : ℕ). Supports least (bits i) (get_or values n (pos 0))) (sym place) (subst (λ (n : ℕ). Supports least (bits n) (get_or values 0 (pos 0))) index both.re)
  | inr (place, index) ↦ subst (λ (n : ℕ). Supports least (bits i) (get_or values n (pos 0))) (sym place) (subst (λ (n : ℕ). Supports least (bits n) (get_or values 1 (pos 0))) index both.im)
]

pub values_of_places_are_heard : ValuesOfPlacesAreHeard
values_of_places_are_heard slot places bits heard = record {
  size = length-placed slot places;
  value = λ i l. let p = get_or places (i / 2) (place 0 0) in
      subst (Supports 1 (bits i)) (sym (placed-at slot places i l)) (one_value (values_at (slot p) p) i bits (heard (i / 2) (omega (arith, l))));
}

pub descrambled_bits_are_heard : DescrambledBitsAreHeard
descrambled_bits_are_heard least count c_init bits values heard = record {
  size = length-descrambled c_init 0 values ∙ heard.size;
  value = λ i l.
      subst (Supports least (bits i)) (sym (descrambled-at c_init 0 values i (let size = heard.size in omega (arith, l, size))))
      (subst (λ n. Supports least (bits i) (descrambled_value (gold_bit c_init n) (get_or values i (pos 0)))) (from_start i)
      (descrambling_keeps least (bits i) (gold_bit c_init i) (get_or values i (pos 0)) (heard.value i l)));
}
  where
    from_start : (n : ℕ) → n ≡ 0 + n
    from_start n = omega arith

-- after descrambling, the soft values of resource elements have the signs of the bits before scrambling
pub scrambled_places_are_heard : (c_init : ℕ) (slot : Place → SeenSlot) (places : List Place) (bits : ℕ → Bool) → ArePlacesHeardIn slot places (scrambled c_init bits) →
    AreHeard 1 (2 * length places) bits (descrambled c_init 0 (placed_values slot places))
scrambled_places_are_heard c_init slot places bits heard =
    descrambled_bits_are_heard 1 (2 * length places) c_init bits (placed_values slot places) (values_of_places_are_heard slot places (scrambled c_init bits) heard)

-- ---- resource elements of a grid

pub carried_places_are_heard : (grids : ℕ → ℕ → Cpx) (slot : SeenSlot) (places : List Place) (bits : ℕ → Bool) → IsSlotHeard grids slot → All (λ p. p.k < 72) places → CarryBits grids places bits →
    ArePlacesHeard slot places bits
carried_places_are_heard grids slot places bits heard inside carry i l =
    let p = get_or places i (place 0 0) in
    heard (p.symbol % 7) p.k (bits (2 * i)) (bits (2 * i + 1)) (omega arith) (inside i (place 0 0) l) (carry i l)

pub carried_bits_are_heard : CarriedBitsAreHeard
carried_bits_are_heard grids slot places bits heard inside carry = values_of_places_are_heard (λ p. slot) places bits (carried_places_are_heard grids slot places bits heard inside carry)
