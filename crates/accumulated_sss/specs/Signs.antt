-- The 124 signs at a candidate, 62 from half-frames of even number and 62 from those of odd number, and how many of
-- them match those of a cell. (own; the sequences are in TS 36.211 section 6.11.2.1)
use Rattle.std.specs.Prelude.{ℕ, ◌+◌, ◌-◌, ◌*◌, ◌/◌, List, ℤ, nat_lt, if◌then◌else◌}
use Rattle.std.specs.Int.{int_signum}
use Rattle.std.specs.Ordering.{int_eq}
use Rattle.finite.specs.Sums.{sum_below, total_below}
use Rattle.cs_num.specs.declared.Sample.{Sample}
use Rattle.lte_types.specs.declared.frame.Half.{Half}
use Rattle.lte_types.specs.declared.frame.Half.TheVariants.{Zero, Five}
use Rattle.lte_types.specs.Numerology.{half_frame_length, useful_length}
use Rattle.sync_seq.specs.Secondary.{sss_at}
use Rattle.accumulated_sss.specs.Votes.{vote}

-- ---- sums over half-frames

-- how many of the first `halves` half-frames have the numbers `parity`, `parity` + 2 and so on; `parity` is 0 or 1
abbrev pub half_count : ℕ → ℕ → ℕ
half_count halves parity = (halves + 1 - parity) / 2

-- the first sample of the primary symbol's useful part in half-frame `h`, for a candidate at position `t`
abbrev pub primary_at : ℕ → ℕ → ℕ
primary_at t h = t + half_frame_length * h

-- the end of the primary symbol's useful part in the last of `halves` half-frames, for a candidate at position `t`
abbrev pub last_end : ℕ → ℕ → ℕ
last_end halves t = primary_at t halves + useful_length - half_frame_length

-- the sum over the half-frames `parity`, `parity` + 2 and so on among the first `halves`; `f` has a value for each
-- sample at which the primary symbol of a half-frame begins
unfoldable pub every_other : ℕ → ℕ → ℕ → (ℕ → ℤ) → ℤ
every_other halves t parity f = sum_below (half_count halves parity) (λ j. f (primary_at t (2 * j + parity)))

-- 62 values for half-frames of even number, then 62 for those of odd number
abbrev pub in_turn : (ℕ → ℤ) → (ℕ → ℤ) → ℕ → ℤ
in_turn even odd i = if nat_lt i 62 then even i else odd (i - 62)

-- 124 sums of `f`, which has 62 values for each half-frame: over half-frames of even number, then of odd number
abbrev pub sums : ℕ → ℕ → (ℕ → ℕ → ℤ) → ℕ → ℤ
sums halves t f = in_turn (λ n. every_other halves t 0 (λ at. f at n)) (λ n. every_other halves t 1 (λ at. f at n))

-- the 124 signs at a candidate, 1, 0 or -1: those of the sums of votes
abbrev pub signs : List Sample → ℕ → ℕ → ℕ → ℕ → ℤ
signs recording halves t n2 i = int_signum (sums halves t (vote recording n2) i)

-- ---- the signs of a cell

-- the half-frame after `half`
abbrev pub next_half : Half → Half
next_half Zero = Five
next_half Five = Zero

-- the 124 signs of the group `n1`, where half-frames of even number are `half`
abbrev pub cell_signs : ℕ → ℕ → Half → ℕ → ℤ
cell_signs n2 n1 half = in_turn (sss_at n1 n2 half) (sss_at n1 n2 (next_half half))

-- how many of the first `count` signs of two patterns are equal
unfoldable pub matches : ℕ → (ℕ → ℤ) → (ℕ → ℤ) → ℕ
matches count pattern other = total_below count (λ i. if int_eq (pattern i) (other i) then 1 else 0)

-- how many of 124 signs match those of the group `n1`, where half-frames of even number are `half`
unfoldable pub cell_matches : (ℕ → ℤ) → ℕ → ℕ → Half → ℕ
cell_matches pattern n2 n1 half = matches 124 pattern (cell_signs n2 n1 half)
