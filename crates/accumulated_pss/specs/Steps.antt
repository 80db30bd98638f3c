-- The state of the code between steps: a half-frame's samples, and sums of which some positions have one more half-frame.
use Rattle.std.specs.Prelude.{◌≡◌, ℕ, ◌+◌, ◌*◌, ◌<◌, ◌≤◌, List, length, slice_index_or, slice_set}
use Rattle.finite.specs.Lists.{values_below}
use Rattle.cs_num.specs.declared.Sample.{Sample}
use Rattle.cs_num.specs.Complex.{silence}
use Rattle.lte_types.specs.Numerology.{half_frame_length, least_samples}
use Rattle.pss_search.specs.Hits.{first_place}
use Rattle.accumulated_pss.specs.Sums.{one, ratio_at, accumulated, row_in}

-- 57,600 samples from sample `start` of a recording, 0 past its end
unfoldable pub window_of : List Sample → ℕ → List Sample
window_of recording start = values_below least_samples (λ k. slice_index_or recording (start + k) silence)

-- a row with a ratio added to the sum at index `i`
abbrev pub added_to : List ℕ → ℕ → ℕ → List ℕ
added_to row i ratio = slice_set row i (slice_index_or row i 0 + ratio)

-- three rows with the ratios at position 137 + `i` of a recording added at index `i`
abbrev pub with_ratios : List Sample → ℕ → List (List ℕ) → List (List ℕ)
with_ratios recording i rows =
    values_below 3 (λ n2. added_to (row_in rows n2) i (ratio_at recording n2 (first_place + i)))

-- the sums at index `i` have room for one more ratio
abbrev pub HasRoom : ℕ → List (List ℕ) → Type 0
HasRoom i rows = (n2 : ℕ) → n2 < 3 → slice_index_or (row_in rows n2) i 0 ≤ 198 * one

-- `row` has 9,600 sums for the primary signal `n2`: over `half` + 1 half-frames at the first `i` positions, and over
-- `half` at the others
pub record IsRow (recording : List Sample) (half i n2 : ℕ) (row : List ℕ) : Type 0 where
  pub count : length row ≡ half_frame_length
  pub with : (k : ℕ) → k < i → slice_index_or row k 0 ≡ accumulated recording (half + 1) n2 (first_place + k)
  pub without : (k : ℕ) → i ≤ k → k < half_frame_length →
      slice_index_or row k 0 ≡ accumulated recording half n2 (first_place + k)

-- there are three such rows, by primary signal
pub record AreRows (recording : List Sample) (half i : ℕ) (rows : List (List ℕ)) : Type 0 where
  pub count : length rows ≡ 3
  pub each : (n2 : ℕ) → n2 < 3 → IsRow recording half i n2 (row_in rows n2)
