-- Soft values that all have the signs of one word's coded bits determine only this word. (own; the code and its reading
-- order are in TS 36.212 sections 5.1.3.1 and 5.1.4.2)
use Rattle.std.specs.Prelude.{◌≡◌, ℕ, ◌+◌, ◌*◌, ◌<◌, ◌≤◌, Bool, cond, List, length, slice_index_or, ℤ, pos, ◌+ℤ◌, neg_ℤ}
use Rattle.finite.specs.Bits.{xor}
use Rattle.sub_block.specs.declared.Item.{Item}
use Rattle.sub_block.specs.Items.{item}
use Rattle.conv_code.specs.Code.{coded_word}
use Rattle.conv_code.specs.Reading.{bit_of_item, item_of, summed_by, summed, summed_from}
use Rattle.conv_code.specs.Cost.{word_cost}
use Rattle.tailbite.specs.LeastWord.{IsLeastWord}
use Rattle.tailbite.specs.Clean.{Speaks}
use Rattle.cs_bits.specs.Signs.{Supports}

-- a law: if four values have a bit's sign and magnitudes of at least `least`, their sum has the bit's sign and a
-- magnitude of at least `4 * least`
abbrev pub FourSpeakTogether : Type 0
FourSpeakTogether =
    (least : ℕ) (bit : Bool) (a b c d : ℤ) → Supports least bit a → Supports least bit b → Supports least bit c →
    Supports least bit d → Supports (4 * least) bit (a +ℤ b +ℤ c +ℤ d)

-- a law: if a value has the sign of a scrambled bit, the value, negated if the scrambling bit is 1, has the sign of the
-- bit before scrambling
abbrev pub DescramblingKeeps : Type 0
DescramblingKeeps =
    (least : ℕ) (bit scrambling : Bool) (value : ℤ) → Supports least (xor bit scrambling) value →
    Supports least bit (cond scrambling (neg_ℤ value) value)

-- Soft value `i` has the sign of coded bit `reading i`. `enough`: each coded bit has at least one value.
pub record SpeakByReading (reading : ℕ → Item) (word : List Bool) (values : List ℤ) : Type 0 where
  pub enough : (k t : ℕ) → k < length word → t < 3 → (i : ℕ) × (i < length values) × (reading i ≡ item t k)
  pub value : (i : ℕ) → i < length values →
      Supports 1 (bit_of_item (coded_word word) (reading i)) (slice_index_or values i (pos 0))

-- a law: if each coded bit has at least one soft value in the order `reading`, and each value has its coded bit's sign,
-- the sum of each coded bit's values has the bit's sign
abbrev pub SumsSpeakByReading : Type 0
SumsSpeakByReading = (reading : ℕ → Item) (word : List Bool) (values : List ℤ) →
    SpeakByReading reading word values → Speaks (summed_by reading (length word) values) word

-- Soft value `i` has the sign of coded bit `reading i`. `enough`: there are at least as many values as coded bits.
pub record SpeakInTurn (reading : ℕ → Item) (word : List Bool) (values : List ℤ) : Type 0 where
  pub enough : 3 * length word ≤ length values
  pub value : (i : ℕ) → i < length values →
      Supports 1 (bit_of_item (coded_word word) (reading i)) (slice_index_or values i (pos 0))

-- for a word of n bits, at least 3n soft values, each with its coded bit's sign; the values are read cyclically from
-- bit `first` (`SpeakInOrderFrom`) or from bit 0 (`SpeakInOrder`)
abbrev pub SpeakInOrderFrom : ℕ → List Bool → List ℤ → Type 0
SpeakInOrderFrom first word values = SpeakInTurn (λ i. item_of (length word) (first + i)) word values

abbrev pub SpeakInOrder : List Bool → List ℤ → Type 0
SpeakInOrder word values = SpeakInTurn (item_of (length word)) word values

-- a law: for a word of n bits, 6 to 64, if at least 3n soft values, read cyclically from any bit, have their coded
-- bits' signs, each coded bit's sum of soft values has the bit's sign
abbrev pub SumsSpeakFrom : Type 0
SumsSpeakFrom = (first : ℕ) (word : List Bool) (values : List ℤ) → 6 ≤ length word → length word ≤ 64 →
    SpeakInOrderFrom first word values → Speaks (summed_from first (length word) values) word

abbrev pub SumsSpeak : Type 0
SumsSpeak =
    (word : List Bool) (values : List ℤ) → 6 ≤ length word → length word ≤ 64 → SpeakInOrder word values →
    Speaks (summed (length word) values) word

-- `word` costs 0 and is the only word of minimum cost: each other word of the same length costs more.
pub record IsOnlyWord (values : List (List ℤ)) (word : List Bool) : Type 0 where
  pub free : word_cost values word ≡ 0
  pub dear : (other : List Bool) → length other ≡ length values → (other ≡ word → ⊥) → 1 ≤ word_cost values other
  pub least : IsLeastWord values word

-- a law: a word of at least 6 bits costs 0 and is the only one of minimum cost, if each value, three per position, has
-- its coded bit's sign
abbrev pub SpokenWordIsOnly : Type 0
SpokenWordIsOnly =
    (values : List (List ℤ)) (word : List Bool) → 6 ≤ length values → length word ≡ length values → Speaks values word →
    IsOnlyWord values word
