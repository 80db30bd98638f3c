-- The room of a word: the sum of the 15 smallest soft values, taken in the direction of the word's coded bits. If it is
-- positive, no other word fits the soft values as well. (own; the code is in TS 36.212 section 5.1.3.1)
use Rattle.std.specs.Prelude.{◌≡◌, ◌↔◌, ℕ, ◌≤◌, Bool, false, cond, List, [], ◌∷◌, length, slice_index_or, ℤ, pos, neg_ℤ, ◌+ℤ◌, ◌≤ℤ◌, ◌<ℤ◌}
use Rattle.std.specs.List.Sorted.{IsPermutation, IsSorted}
use Rattle.std.specs.Ordering.{int_cmp}
use Rattle.finite.specs.Lists.{joined_below}
use Rattle.finite.specs.Sums.{sum_below}
use Rattle.conv_code.specs.Code.{coded_bits}
use Rattle.conv_code.specs.Cost.{word_cost}
use Rattle.tailbite.specs.LeastWord.{IsLeastWord}
use Rattle.code_distance.specs.Distance.{Outweigh}

-- a soft value in the direction of a bit: positive if it agrees with the bit, and negative if it contradicts the bit
abbrev pub agreement : ℤ → Bool → ℤ
agreement z bit = cond bit (neg_ℤ z) z

-- three soft values in the direction of three coded bits
abbrev pub agreements : List ℤ → List Bool → List ℤ
agreements values bits =
    agreement (slice_index_or values 0 (pos 0)) (slice_index_or bits 0 false) ∷
    agreement (slice_index_or values 1 (pos 0)) (slice_index_or bits 1 false) ∷
    agreement (slice_index_or values 2 (pos 0)) (slice_index_or bits 2 false) ∷ []

-- the soft values in the direction of a word's coded bits, by index and stream
unfoldable pub word_agreements : List (List ℤ) → List Bool → List ℤ
word_agreements values word =
    joined_below (length values) (λ k. agreements (slice_index_or values k []) (coded_bits word k))

-- `sum` is the sum of the `count` smallest of `values`
pub record IsSumOfLeast (count : ℕ) (values : List ℤ) (sum : ℤ) : Type 0 where
  pub sorted : List ℤ
  pub same : IsPermutation values sorted
  pub ascending : IsSorted int_cmp sorted
  pub sum_is : sum ≡ sum_below count (λ i. slice_index_or sorted i (pos 0))

-- `room` is the room of a word: 15 is the code's minimum distance (`Distance.antt:IsFifteenApart`)
abbrev pub IsRoom : List (List ℤ) → List Bool → ℤ → Type 0
IsRoom values word = IsSumOfLeast 15 (word_agreements values word)

-- a law: a word of at least 22 bits has one room
abbrev pub IsOneRoom : Type 0
IsOneRoom =
    (values : List (List ℤ)) (word : List Bool) (a b : ℤ) → 22 ≤ length values →
    IsRoom values word a → IsRoom values word b → a ≡ b

-- a law: every other word costs at least the cost of the minimum-cost word and its room
abbrev pub RoomSeparatesWords : Type 0
RoomSeparatesWords =
    (values : List (List ℤ)) (word other : List Bool) (room : ℤ) → 22 ≤ length values →
    IsLeastWord values word → length other ≡ length values → (other ≡ word → ⊥) → IsRoom values word room →
    (pos (word_cost values word) +ℤ room) ≤ℤ pos (word_cost values other)

-- a law: the soft values outweigh every other word if and only if the word's room is positive
abbrev pub PositiveRoomOutweighs : Type 0
PositiveRoomOutweighs =
    (values : List (List ℤ)) (word : List Bool) (room : ℤ) → 22 ≤ length values → IsRoom values word room →
    pos 0 <ℤ room ↔ Outweigh values word
