-- Hits: the positions at which a primary synchronisation signal stands out. A position's metric is the ratio peak /
-- energy; ratios are compared by cross-multiplication, and only positions with energy are compared. (own)
use Rattle.std.specs.Prelude.{◌≡◌, ℕ, ◌+◌, ◌*◌, ◌^◌, ◌<◌, ◌≤◌, List, [], ◌∷◌, if◌then◌else◌}
use Rattle.cs_num.specs.declared.Sample.{Sample}
use Rattle.lte_types.specs.declared.Hit.{Hit}
use Rattle.finite.specs.Lists.{joined_below}
use Rattle.lte_types.specs.Numerology.{frame_length}
use Rattle.pss_search.specs.Correlation.{peak, energy, wave_power}
use Rattle.pss_search.specs.Tests.{is_hit}

-- ---- the span

-- the first position searched for hits. It leaves just enough room before it for the useful part of the preceding
-- symbol, which carries the secondary signal. The search spans one frame.
abbrev pub first_place : ℕ
first_place = 137

-- the last position searched for hits, 19,199 after the first
abbrev pub last_place : ℕ
last_place = 19336

-- ---- a hit

-- position `first` has a greater metric for the primary signal `n2` than position `second`; both have energy
pub record IsAbove (recording : List Sample) (n2 first second : ℕ) : Type 0 where
  pub first_sounds : 0 < energy recording first
  pub second_sounds : 0 < energy recording second
  pub greater : peak recording n2 second * energy recording first < peak recording n2 first * energy recording second

-- positions `first` and `second` have equal metrics for the primary signal `n2`, and both have energy
pub record IsLevel (recording : List Sample) (n2 first second : ℕ) : Type 0 where
  pub first_sounds : 0 < energy recording first
  pub second_sounds : 0 < energy recording second
  pub equal : peak recording n2 second * energy recording first ≡ peak recording n2 first * energy recording second

-- Position `t` is a hit of the primary signal `n2`. It is in the search range and has energy. Four times its peak is at
-- least its energy times the signal's power. No position at most 9 away has a greater metric, and no earlier one among
-- them has an equal metric.
pub record IsHit (recording : List Sample) (t n2 : ℕ) : Type 0 where
  pub from_first : first_place ≤ t
  pub to_last : t ≤ last_place
  pub sounds : 0 < energy recording t
  pub clear : energy recording t * wave_power n2 ≤ 4 * peak recording n2 t
  pub none_above : (u : ℕ) → u ≤ t + 9 → t ≤ u + 9 → ¬ IsAbove recording n2 u t
  pub none_level_before : (u : ℕ) → u < t → t ≤ u + 9 → ¬ IsLevel recording n2 u t

-- ---- the list of hits

-- the list's item for a hit of the primary signal `n2` at position `t`, with its peak and energy
abbrev pub found : List Sample → ℕ → ℕ → Hit
found recording t n2 = record { t = t; n2 = n2; peak = peak recording n2 t; energy = energy recording t }

-- a list with the hit of the primary signal `n2` at position `t`, empty if there is no such hit
unfoldable pub hit_at : List Sample → ℕ → ℕ → List Hit
hit_at recording t n2 = if is_hit recording t n2 then found recording t n2 ∷ [] else []

-- the hits at position t, in order of n2
unfoldable pub hits_at : List Sample → ℕ → List Hit
hits_at recording t = joined_below 3 (hit_at recording t)

-- the hits at the first `count` positions of the search range, ordered by position, then by n2
unfoldable pub hits_before : List Sample → ℕ → List Hit
hits_before recording count = joined_below count (λ i. hits_at recording (first_place + i))

-- all hits of a recording
abbrev pub hits_of : List Sample → List Hit
hits_of recording = hits_before recording frame_length

-- the hit is in the search range and belongs to one of the three primary signals
pub record IsInSpan (hit : Hit) : Type 0 where
  pub from_first : first_place ≤ hit.t
  pub to_last : hit.t ≤ last_place
  pub root : hit.n2 ≤ 2

-- a hit's peak and energy are bounded, since the real and imaginary parts of a sample have 16 bits
pub record IsSmallHit (hit : Hit) : Type 0 where
  pub peak : hit.peak ≤ 2 ^ 59
  pub energy : hit.energy ≤ 2 ^ 38
