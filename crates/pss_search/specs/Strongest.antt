-- The position at which a primary signal is strongest, among those that decide the hits. A position's metric is the
-- ratio peak / energy; ratios are compared by cross-multiplication, and a position without energy is the weakest. (own)
use Rattle.std.specs.Prelude.{ℕ, ◌*◌, ◌<◌, ◌≤◌, List}
use Rattle.cs_num.specs.declared.Sample.{Sample}
use Rattle.lte_types.specs.Numerology.{useful_length}
use Rattle.pss_search.specs.declared.measure.Metric.{Metric}
use Rattle.pss_search.specs.Metrics.{metric_at, end_place}

-- the metric `first` is stronger than the metric `second`: `first` has energy, and `second` has none or a smaller ratio
-- of peak to energy
abbrev pub IsStronger : Metric → Metric → Type 0
IsStronger first second =
    (0 < first.energy) × (0 < second.energy → second.peak * first.energy < first.peak * second.energy)

-- the metric `first` is at least as strong as the metric `second`: `second` has no energy, or `first` has energy and at
-- least the same ratio of peak to energy
abbrev pub IsAsStrong : Metric → Metric → Type 0
IsAsStrong first second =
    0 < second.energy → (0 < first.energy) × (second.peak * first.energy ≤ first.peak * second.energy)

-- position `t` is the first, among positions 128 to `end` - 1, at which the PSS `n2` is strongest
pub record IsStrongestBefore (recording : List Sample) (n2 end t : ℕ) : Type 0 where
  pub from_first : useful_length ≤ t
  pub before_end : t < end
  pub greatest : (u : ℕ) → useful_length ≤ u → u < end →
      IsAsStrong (metric_at recording t n2) (metric_at recording u n2)
  pub first : (u : ℕ) → useful_length ≤ u → u < t → IsStronger (metric_at recording t n2) (metric_at recording u n2)

-- position `t` is the first at which the PSS `n2` is strongest, among all positions that decide the hits, 128 to 19,345
abbrev pub IsStrongest : List Sample → ℕ → ℕ → Type 0
IsStrongest recording n2 t = IsStrongestBefore recording n2 end_place t
