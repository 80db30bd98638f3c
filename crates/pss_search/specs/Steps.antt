-- The state of the code between steps: the list while it grows, and bounds on peaks, energies and dot products.
use Rattle.std.specs.Prelude.{◌≡◌, ℕ, ◌+◌, ◌%◌, ◌^◌, ◌<◌, ◌≤◌, List, ◌++◌, All, length, slice_index_or, nat_abs, []}
use Rattle.cs_num.specs.declared.Sample.{Sample}
use Rattle.cs_num.specs.Complex.{square, sample_at}
use Rattle.lte_types.specs.declared.Hit.{Hit}
use Rattle.finite.specs.Lists.{joined_below, values_below}
use Rattle.pss_search.specs.declared.measure.Metric.{Metric}
use Rattle.pss_search.specs.declared.products.ProductSums.{ProductSums}
use Rattle.pss_search.specs.declared.measure.PlaceSums.{PlaceSums}
use Rattle.pss_search.specs.declared.strongest.Measured.{Measured}
use Rattle.pss_search.specs.Correlation.{peak, energy}
use Rattle.pss_search.specs.Metrics.{Standing, end_place}
use Rattle.pss_search.specs.Strongest.{IsStrongestBefore}
use Rattle.pss_search.specs.Hits.{first_place, last_place, hit_at, hits_before}
use Rattle.lte_types.specs.Numerology.{useful_length}

-- ---- bounds

-- a metric's peak is below 2^70, and its energy at most 2^38
pub record IsSmallMetric (metric : Metric) : Type 0 where
  pub peak : metric.peak < 2 ^ 70
  pub energy : metric.energy ≤ 2 ^ 38

-- `metric` has the peak and the energy at position `t` for the primary signal `n2`, a peak below 2^70 and an energy of
-- at most 2^38
pub record IsMetricOf (recording : List Sample) (n2 t : ℕ) (metric : Metric) : Type 0 where
  pub peak : metric.peak ≡ peak recording n2 t
  pub energy : metric.energy ≡ energy recording t
  pub small_peak : metric.peak < 2 ^ 70
  pub small_energy : metric.energy ≤ 2 ^ 38

-- bounds on the dot products of 128 samples' real or imaginary parts with a signal's real or imaginary parts, which
-- have magnitudes up to 255
pub record AreSmallProducts (p : ProductSums) : Type 0 where
  pub re_re : nat_abs p.re_re ≤ 1069547520
  pub im_im : nat_abs p.im_im ≤ 1069547520
  pub im_re : nat_abs p.im_re ≤ 1069547520
  pub re_im : nat_abs p.re_im ≤ 1069547520

-- ---- a sweep

-- A sweep is ready at `place`, a position to be measured or the end. The recording has at least 57,600 samples, `total`
-- is the energy at `place`, and each sample that was already read has a squared magnitude of at most 2^31.
pub record IsReady (recording : List Sample) (place total : ℕ) : Type 0 where
  pub long : 57600 ≤ length recording
  pub first : useful_length ≤ place
  pub last : place ≤ end_place
  pub energy : total ≡ energy recording place
  pub small : (k : ℕ) → k < place → square (sample_at recording (k + useful_length)) ≤ 2 ^ 31

-- ---- the last 19 positions

-- `row` holds the three peaks, each at most 2^63, and the energy, at most 2^38, at position `u`
pub record IsRowOf (recording : List Sample) (u : ℕ) (row : PlaceSums) : Type 0 where
  pub peaks : row.peaks ≡ values_below 3 (λ n2. peak recording n2 u)
  pub energy : row.energy ≡ energy recording u
  pub small_peaks : All (λ p. p ≤ 2 ^ 63) row.peaks
  pub small_energy : row.energy ≤ 2 ^ 38

-- the row of a position that was not measured
abbrev pub empty_row : PlaceSums
empty_row = record { peaks = []; energy = 0 }

-- `rows` has 32 entries, among them the rows of the last 19 positions before `place`; the row of position `u` is at
-- index `u` modulo 32
pub record HoldsLast (recording : List Sample) (place : ℕ) (rows : List PlaceSums) : Type 0 where
  pub whole : length rows ≡ 32
  pub each : (u : ℕ) → useful_length ≤ u → u < place → place ≤ u + 19 →
      IsRowOf recording u (slice_index_or rows (u % 32) empty_row)

-- the sweep's next position is `t` + 10, so all metrics that decide whether `t` is a hit were measured; `t` is in the
-- search range
pub record DecidesOn (recent : Standing) (t : ℕ) : Type 0 where
  pub first : first_place ≤ t
  pub last : t ≤ last_place
  pub past : recent.place ≡ t + 10

-- ---- the strongest position

-- `best` is the strongest position for the PSS `n2` before `end`, with its metric
pub record IsStrongestSoFar (recording : List Sample) (n2 end : ℕ) (best : Measured) : Type 0 where
  pub strongest : IsStrongestBefore recording n2 end best.t
  pub metric : IsMetricOf recording n2 best.t best.metric

-- ---- the list

-- the hits at the first `i` positions of the search range, then the hits of primary signals below `n2` at the next
-- position
abbrev pub so_far : List Sample → ℕ → ℕ → List Hit
so_far recording i n2 = hits_before recording i ++ joined_below n2 (hit_at recording (first_place + i))
