-- The control format indicator that is decoded from soft values.
use Rattle.std.specs.Prelude.{ℕ, ◌<◌, ◌≤◌, List, slice_index_or, ℤ, pos}
use Rattle.finite.specs.Sums.{total_below}
use Rattle.cs_bits.specs.Signs.{disagreement, SpeaksFor}
use Rattle.grid_map.specs.Scrambling.{indicator_bit}

-- the cost of a control format indicator: the sum of the magnitudes of the soft values that disagree in sign with its
-- 32 coded bits (own)
unfoldable pub cost : List ℤ → ℕ → ℕ
cost values indicator =
    total_below 32 (λ i. disagreement (slice_index_or values i (pos 0)) (indicator_bit indicator i))

-- `indicator`, from 1 to 3, is the control format indicator with the minimum cost; ties go to the lowest (own)
pub record IsIndicator (values : List ℤ) (indicator : ℕ) : Type 0 where
  pub range : (1 ≤ indicator) × (indicator ≤ 3)
  pub least : (other : ℕ) → 1 ≤ other → other ≤ 3 → cost values indicator ≤ cost values other
  pub first : (other : ℕ) → 1 ≤ other → other < indicator → cost values indicator < cost values other

-- each of the 32 soft values is not 0 and agrees in sign with the coded bit of `indicator` at its index (own)
abbrev pub Speak : List ℤ → ℕ → Type 0
Speak values indicator = (i : ℕ) → i < 32 → SpeaksFor (slice_index_or values i (pos 0)) (indicator_bit indicator i)
