-- Keys: a word's cost and its bits as a number, combined in one number, so that the minimum key belongs to the
-- minimum-cost word (own).
use Rattle.std.specs.Prelude.{◌≡◌, ℕ, ◌*◌, ◌^◌, ◌<◌, ◌≤◌, Bool, List, length, slice_index, ℤ}
use Rattle.trellis.specs.Paths.{end_of}
use Rattle.trellis.specs.Words.{key}
use Rattle.conv_code.specs.Cost.{word_cost}
use Rattle.tailbite.specs.Machine.{shift}

-- the weight of one cost unit in a key: more than any word as a number
abbrev pub scale : ℕ
scale = 2 ^ 64

-- the cost of a path end in another state than the start: more than the cost of any word
abbrev pub far : ℕ
far = 2 ^ 30

-- the key of a word: its cost times 2^64 plus the word as a number
abbrev pub word_key : List (List ℤ) → List Bool → ℕ
word_key values = key scale (word_cost values)

-- m is the key of a word with one bit per position
abbrev pub IsWordKey : List (List ℤ) → ℕ → Type 0
IsWordKey values m = (word : List Bool) × (length word ≡ length values) × (word_key values word ≡ m)

-- m is a lower bound on the keys of all words whose path starts and ends in state s
abbrev pub IsBound : List (List ℤ) → ℕ → ℕ → Type 0
IsBound values s m =
    (word : List Bool) → length word ≡ length values → end_of shift 0 word ≡ s → m ≤ word_key values word

-- `bounds` has, for each state, a lower bound on the keys of all words whose path starts and ends in the state
pub record AreBounds (values : List (List ℤ)) (bounds : List ℕ) : Type 0 where
  pub bound : (s : ℕ) → s < 64 → IsBound values s (slice_index bounds s)

-- m is the key of a word, or at least `far * scale`, as is the key of a path that does not end in its start state
abbrev pub IsKeyOrFar : List (List ℤ) → ℕ → Type 0
IsKeyOrFar values m = m < far * scale → IsWordKey values m

-- m is the minimum among the keys of all words with one bit per position
pub record IsLeastKey (values : List (List ℤ)) (m : ℕ) : Type 0 where
  pub reached : IsWordKey values m
  pub least : (word : List Bool) → length word ≡ length values → m ≤ word_key values word
