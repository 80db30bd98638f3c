-- A transport block that the first iteration decodes although soft values have wrong signs: the first constituent
-- decoder prefers the sent word by a margin, and the second decoder's parity values contradict this word by less. (own;
-- the code is in TS 36.212 section 5.1.3.2)
use Rattle.std.specs.Prelude.{◌≡◌, ℕ, ◌+◌, ◌*◌, ◌<◌, ◌≤◌, ◌≤ℤ◌, ◌+ℤ◌, true, Bool, List, length, replicate, Some, ℤ, pos}
use Rattle.finite.specs.Sums.{total_below}
use Rattle.finite.specs.Tables.{sum_at}
use Rattle.cs_bits.specs.Checks.{message_of, has_check_24}
use Rattle.cs_bits.specs.Signs.{disagreement}
use Rattle.turbo_code.specs.declared.rows.Row.{Row}
use Rattle.turbo_code.specs.Table.{IsAnyRow}
use Rattle.turbo_code.specs.Encoder.{bit_at, parity, tail_x, tail_z, interleaved}
use Rattle.turbo_code.specs.Streams.{bits_of_stream, tail_items, in_order}
use Rattle.turbo_dec.specs.Decoder.{Values, values_of, at, score}
use Rattle.turbo_dec.specs.Block.{block}

-- the input of the first constituent decoder in the first iteration
abbrev pub first_values : Row → List (List ℤ) → Values
first_values row sums =
    values_of (bits_of_stream (pos 0) row sums 0) (bits_of_stream (pos 0) row sums 1) (tail_items (pos 0) sums row.k)
    (replicate row.k (pos 0))

-- the input of the second constituent decoder, with the priors `prior`
abbrev pub second_values : Row → List (List ℤ) → List ℤ → Values
second_values row sums prior =
    values_of (in_order (pos 0) row (bits_of_stream (pos 0) row sums 0)) (bits_of_stream (pos 0) row sums 2)
    (tail_items (pos 0) sums (row.k + 2)) prior

-- the sum of the magnitudes of the parity and tail values that contradict a word
unfoldable pub contradiction : Values → List Bool → ℕ
contradiction v word =
    total_below (length v.systematic) (λ k. disagreement (at v.parity k) (parity word k))
    + total_below 3
    (λ j. disagreement (at v.tail (2 * j)) (tail_x word j) + disagreement (at v.tail (2 * j + 1)) (tail_z word j))

-- the score of every word other than `word` is lower by at least `margin`
abbrev pub IsAheadBy : ℕ → Values → List Bool → Type 0
IsAheadBy margin v word =
    (other : List Bool) → length other ≡ length v.systematic → (other ≡ word → ⊥) →
    (score v other +ℤ pos margin) ≤ℤ score v word

-- The sums have a margin for the word. `ahead`: the first decoder prefers the word by `margin`. `own`: no systematic
-- bit's sum contradicts the word by more than three margins. `second`: the second decoder's parity and tail values
-- contradict the word by less than the margin in all; its priors do not matter.
pub record HasMargin (row : Row) (word : List Bool) (sums : List (List ℤ)) : Type 0 where
  pub margin : ℕ
  pub most : margin ≤ 500
  pub ahead : IsAheadBy margin (first_values row sums) word
  pub own : (k : ℕ) → k < row.k → disagreement (sum_at sums 0 k) (bit_at word k) ≤ 3 * margin
  pub second : (prior : List ℤ) → contradiction (second_values row sums prior) (interleaved row word) < margin

-- a law: a block with its CRC24A is decoded, in the first iteration, if its sums have a margin
abbrev pub MarginIsDecoded : Type 0
MarginIsDecoded =
    (row : Row) (word : List Bool) (sums : List (List ℤ)) → IsAnyRow row → length word ≡ row.k →
    has_check_24 word ≡ true → HasMargin row word sums → block row sums ≡ Some (message_of 24 word)
