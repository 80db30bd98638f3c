-- The minimum-cost word for received values (own).
use Rattle.std.specs.Prelude.{◌≡◌, ◌<◌, ◌≤◌, Bool, List, length, ℤ}
use Rattle.trellis.specs.Words.{IsBefore}
use Rattle.conv_code.specs.Cost.{word_cost}

-- `word` is the minimum-cost word: no word with one bit per position costs less, and each word before it in
-- lexicographic order costs more
pub record IsLeastWord (values : List (List ℤ)) (word : List Bool) : Type 0 where
  pub size : length word ≡ length values
  pub least : (other : List Bool) → length other ≡ length values → word_cost values word ≤ word_cost values other
  pub first : (other : List Bool) → length other ≡ length values → IsBefore other word →
      word_cost values word < word_cost values other
