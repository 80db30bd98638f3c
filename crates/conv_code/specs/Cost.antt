-- The cost of a word, given soft values: a positive value means the coded bit 0, a negative one 1 (own).
use Rattle.std.specs.Prelude.{ℕ, ◌+◌, Bool, List, [], length, slice_index_or, ℤ, pos}
use Rattle.finite.specs.Sums.{total_below}
use Rattle.cs_bits.specs.Signs.{disagreement}
use Rattle.conv_code.specs.Code.{tapped_bit, taps_0, taps_1, taps_2}

-- the branch metric: the summed magnitude of each soft value in `v` that contradicts its coded bit (b0, b1, b2)
abbrev pub triple_cost : List ℤ → Bool → Bool → Bool → ℕ
triple_cost v b0 b1 b2 =
    disagreement (slice_index_or v 0 (pos 0)) b0 + disagreement (slice_index_or v 1 (pos 0)) b1
    + disagreement (slice_index_or v 2 (pos 0)) b2

-- a word's branch metric at index k
abbrev pub cost_at : List (List ℤ) → List Bool → ℕ → ℕ
cost_at values word k =
    triple_cost (slice_index_or values k [])
    (tapped_bit taps_0 word k) (tapped_bit taps_1 word k) (tapped_bit taps_2 word k)

-- a word's cost: the summed magnitudes of all soft values that contradict the word's coded bits
unfoldable pub word_cost : List (List ℤ) → List Bool → ℕ
word_cost values word = total_below (length values) (cost_at values word)
