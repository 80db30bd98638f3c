-- The detection of a cell at a candidate. (own)
use Rattle.std.specs.Prelude.{◌≡◌, ℕ, ◌*◌, ◌/◌, ◌≤◌, List, ℤ, pos, ◌*ℤ◌, nat_abs, nat_le, int_lt, Option, Some, None, if◌then◌else◌}
use Rattle.finite.specs.Sums.{sum_below}
use Rattle.cs_num.specs.declared.Sample.{Sample}
use Rattle.lte_types.specs.declared.frame.Half.{Half}
use Rattle.pss_search.specs.Correlation.{wave_power}
use Rattle.sss_detect.specs.Identity.{IsBest, best_pair}
use Rattle.accumulated_sss.specs.declared.detecting.Detection.{Detection}
use Rattle.accumulated_sss.specs.Votes.{product}
use Rattle.accumulated_sss.specs.Signs.{sums, signs, cell_signs, cell_matches}

-- ---- the power

-- the sum of all products, each times the sign of the group `n1` there, where half-frames of even number are `half`
unfoldable pub signal_sum : List Sample → ℕ → ℕ → ℕ → ℕ → Half → ℤ
signal_sum recording halves t n2 n1 half =
    sum_below 124 (λ i. cell_signs n2 n1 half i *ℤ sums halves t (product recording n2) i)

-- an integer, or 0 in place of a negative one
abbrev pub above_0 : ℤ → ℕ
above_0 z = if int_lt z (pos 0) then 0 else nat_abs z

-- about the energy of 24 received reference signals, from the sum of the 62 products of each half-frame: in the mean a
-- product is the primary signal's power times 8,128 |g|^2, and such an element has about the squared magnitude
-- (8,128 |g|)^2, where g is the cell's gain
abbrev pub power_of : ℕ → ℕ → ℤ → ℕ
power_of halves n2 sum = 24 * 8128 * above_0 sum / (62 * halves * wave_power n2)

-- ---- the pair of a group and a half-frame

-- how many of the 124 signs at a candidate match, by group and half-frame
abbrev pub match_counts : List Sample → ℕ → ℕ → ℕ → ℕ → Half → ℤ
match_counts recording halves t n2 n1 half = pos (cell_matches (signs recording halves t n2) n2 n1 half)

-- the group, and the half-frame that those of even number are, with most matches: of several pairs one of subframe 0,
-- then the lowest group
abbrev pub pair_of : List Sample → ℕ → ℕ → ℕ → ℕ × Half
pair_of recording halves t n2 = best_pair (match_counts recording halves t n2)

-- what is reported for a group and a half-frame
abbrev pub detected : List Sample → ℕ → ℕ → ℕ → ℕ × Half → Detection
detected recording halves t n2 pair = record {
  n1 = pair.0;
  half = pair.1;
  matches = cell_matches (signs recording halves t n2) n2 pair.0 pair.1;
  power = power_of halves n2 (signal_sum recording halves t n2 pair.0 pair.1);
}

-- a detection, or nothing if fewer than 93 of 124 signs match
abbrev pub if_enough : Detection → Option Detection
if_enough found = if nat_le 93 found.matches then Some found else None

-- the detection at a candidate in the first `halves` half-frames, if there is one
unfoldable pub detection_at : List Sample → ℕ → ℕ → ℕ → Option Detection
detection_at recording halves t n2 = if_enough (detected recording halves t n2 (pair_of recording halves t n2))

-- ---- the same as a relation

-- `found` is a detection at a candidate: no other pair of a group and a half-frame has more matches, each earlier pair
-- has fewer, at least 93 signs match, and the power is that of the pair
pub record IsDetection (recording : List Sample) (halves t n2 : ℕ) (found : Detection) : Type 0 where
  pub best : IsBest (match_counts recording halves t n2) found.n1 found.half
  pub matches : found.matches ≡ cell_matches (signs recording halves t n2) n2 found.n1 found.half
  pub enough : 93 ≤ found.matches
  pub power : found.power ≡ power_of halves n2 (signal_sum recording halves t n2 found.n1 found.half)
