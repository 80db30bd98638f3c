-- The correlation with the primary signals, accumulated over half-frames. Peaks, energies and powers are those of PSS
-- detection. (own)
use Rattle.std.specs.Prelude.{ℕ, ◌+◌, ◌-◌, ◌*◌, ◌/◌, ◌^◌, ◌≤◌, List, [], slice_index_or}
use Rattle.finite.specs.Sums.{total_below}
use Rattle.finite.specs.Lists.{values_below}
use Rattle.cs_num.specs.declared.Sample.{Sample}
use Rattle.lte_types.specs.Numerology.{half_frame_length, useful_length}
use Rattle.pss_search.specs.Correlation.{peak, energy, wave_power}
use Rattle.pss_search.specs.Hits.{first_place}

-- ---- positions and half-frames

-- the last position of a half-frame, 9,599 after the first
abbrev pub last_position : ℕ
last_position = 9736

-- `t` is one of the 9,600 positions of a half-frame, 137 to 9,736
pub record IsPosition (t : ℕ) : Type 0 where
  pub from_first : first_place ≤ t
  pub to_last : t ≤ last_position

-- the useful part at the last position of half-frame `half`, and so at each position, is within `count` samples
abbrev pub IsComplete : ℕ → ℕ → Type 0
IsComplete count half = last_position + half_frame_length * half + useful_length ≤ count

-- the samples that the positions of `halves` half-frames cover
abbrev pub covered : ℕ → ℕ
covered halves = 264 + half_frame_length * halves

-- K: the number of half-frames in `count` samples
abbrev pub half_frames_in : ℕ → ℕ
half_frames_in count = (count - 264) / half_frame_length

-- ---- ratios and their sums

-- 1, in the unit of a ratio
abbrev pub one : ℕ
one = 2 ^ 24

-- a peak relative to the product of the energy and the signal's power, in parts of 2^24
abbrev pub ratio_of : ℕ → ℕ → ℕ → ℕ
ratio_of peak energy power = peak / (energy * power / one + 1)

-- the ratio for the primary signal `n2` at sample `t`
unfoldable pub ratio_at : List Sample → ℕ → ℕ → ℕ
ratio_at recording n2 t = ratio_of (peak recording n2 t) (energy recording t) (wave_power n2)

-- the ratio for the primary signal `n2` at position `t` of half-frame `half`
abbrev pub ratio : List Sample → ℕ → ℕ → ℕ → ℕ
ratio recording n2 t half = ratio_at recording n2 (t + half_frame_length * half)

-- A(t): the sum of the ratios for the primary signal `n2` at position `t` of the first `halves` half-frames
abbrev pub accumulated : List Sample → ℕ → ℕ → ℕ → ℕ
accumulated recording halves n2 t = total_below halves (ratio recording n2 t)

-- ---- rows

-- the sums at the 9,600 positions for the primary signal `n2`
unfoldable pub row_of : List Sample → ℕ → ℕ → List ℕ
row_of recording halves n2 = values_below half_frame_length (λ i. accumulated recording halves n2 (first_place + i))

-- the sums for the three primary signals
abbrev pub rows_of : List Sample → ℕ → List (List ℕ)
rows_of recording halves = values_below 3 (row_of recording halves)

-- the row of the primary signal `n2`
abbrev pub row_in : List (List ℕ) → ℕ → List ℕ
row_in rows n2 = slice_index_or rows n2 []

-- the sum at position `t`
abbrev pub sum_at : List ℕ → ℕ → ℕ
sum_at row t = slice_index_or row (t - first_place) 0
