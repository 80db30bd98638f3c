-- The metrics that a sweep over a recording measures, position by position. (own)
use Rattle.std.specs.Prelude.{ℕ, List}
use Rattle.finite.specs.Lists.{values_below}
use Rattle.cs_num.specs.declared.Sample.{Sample}
use Rattle.pss_search.specs.declared.measure.Metric.{Metric}
use Rattle.pss_search.specs.Correlation.{peak, energy}

-- a sweep's recording and the next position that it measures
pub record Standing : Type 0 where
  pub recording : List Sample
  pub place : ℕ

-- one past the last position that a sweep measures
abbrev pub end_place : ℕ
end_place = 19346

-- the metric at position `t` for the primary signal `n2`: the peak and the energy
abbrev pub metric_at : List Sample → ℕ → ℕ → Metric
metric_at recording t n2 = record { peak = peak recording n2 t; energy = energy recording t }

-- the three metrics at position t, in order of n2
abbrev pub metrics_at : List Sample → ℕ → List Metric
metrics_at recording t = values_below 3 (metric_at recording t)
