-- Received values whose signs all agree with the coded bits of one information word (own).
use Rattle.std.specs.Prelude.{◌≡◌, ℕ, ◌<◌, ◌≤◌, Bool, List, [], length, slice_index_or, ℤ, pos}
use Rattle.conv_code.specs.Code.{tapped_bit, taps_0, taps_1, taps_2}
use Rattle.cs_bits.specs.Signs.{SpeaksFor}
use Rattle.tailbite.specs.LeastWord.{IsLeastWord}

-- each of the three soft values `v` has the sign of its own coded bit of `word` at position `k`: positive for 0,
-- negative for 1
pub record PlaceSpeaks (v : List ℤ) (word : List Bool) (k : ℕ) : Type 0 where
  pub first : SpeaksFor (slice_index_or v 0 (pos 0)) (tapped_bit taps_0 word k)
  pub second : SpeaksFor (slice_index_or v 1 (pos 0)) (tapped_bit taps_1 word k)
  pub third : SpeaksFor (slice_index_or v 2 (pos 0)) (tapped_bit taps_2 word k)

-- the values at every position agree in sign with the word's coded bits
pub record Speaks (values : List (List ℤ)) (word : List Bool) : Type 0 where
  pub place : (k : ℕ) → k < length values → PlaceSpeaks (slice_index_or values k []) word k

-- if all values agree in sign with the coded bits of a word of at least 6 bits, the word is the only minimum-cost word
abbrev pub IsOnlyLeast : Type 0
IsOnlyLeast =
    (values : List (List ℤ)) (word least : List Bool) → 6 ≤ length values → length word ≡ length values →
    Speaks values word →
    IsLeastWord values least → least ≡ word
