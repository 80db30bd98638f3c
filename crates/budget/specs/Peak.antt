-- The conditions under which a primary synchronisation signal (PSS) stands out in a recording, depending on its errors.
-- (own; the signal is in TS 36.211 section 6.11.1)
use Rattle.std.specs.Prelude.{◌≡◌, ◌≢◌, ℕ, ◌+◌, ◌*◌, ◌<◌, ◌≤◌, List}
use Rattle.std.specs.List.{Contains}
use Rattle.cs_num.specs.declared.Cpx.{Cpx}
use Rattle.cs_num.specs.declared.Sample.{Sample}
use Rattle.pss_search.specs.Correlation.{pss_grid, peak, energy, wave_power}
use Rattle.pss_search.specs.Hits.{IsAbove, IsHit, first_place, last_place, found, hits_of}
use Rattle.budget.specs.Received.{IsReceived, samples_from}

-- 128 samples from sample `t` are the PSS of root `n2` (0 to 2) times a gain, with error energy at most `quota` times
-- the gain's square; the samples before and after may be anything
pub record IsPrimaryWithin (quota : ℕ) (recording : List Sample) (t n2 : ℕ) : Type 0 where
  pub gain : Cpx
  pub root : n2 ≤ 2
  pub received : IsReceived quota gain (pss_grid n2) (samples_from recording t)

-- The 128 samples from `t` have energy, and their normalised metric is at least `least` thousandths. `above`: the
-- metric is greater than at each other sample at most 9 away that has energy.
pub record StandsOutBy (least : ℕ) (recording : List Sample) (t n2 : ℕ) : Type 0 where
  pub sounds : 0 < energy recording t
  pub clear : least * (energy recording t * wave_power n2) ≤ 1000 * peak recording n2 t
  pub above : (u : ℕ) → u ≢ t → u ≤ t + 9 → t ≤ u + 9 → 0 < energy recording u → IsAbove recording n2 t u

-- a PSS whose error energy is at most `quota` times its gain's square has a normalised metric of at least `least`
-- thousandths, greater than at each other sample at most 9 away that has energy
abbrev pub PrimaryStandsOutBy : ℕ → ℕ → Type 0
PrimaryStandsOutBy quota least =
    (recording : List Sample) (t n2 : ℕ) → IsPrimaryWithin quota recording t n2 → StandsOutBy least recording t n2

-- a PSS in the PSS search range, with error energy at most `quota` times its gain's square, is a PSS detection (a hit)
abbrev pub PrimaryIsHitWithin : ℕ → Type 0
PrimaryIsHitWithin quota =
    (recording : List Sample) (t n2 : ℕ) → IsPrimaryWithin quota recording t n2 → first_place ≤ t → t ≤ last_place →
    IsHit recording t n2

-- a PSS in the PSS search range, with error energy at most `quota` times its gain's square, is in the list of PSS
-- detections
abbrev pub PrimaryIsListedWithin : ℕ → Type 0
PrimaryIsListedWithin quota =
    (recording : List Sample) (t n2 : ℕ) → IsPrimaryWithin quota recording t n2 → first_place ≤ t → t ≤ last_place →
    Contains (hits_of recording) (found recording t n2)

-- a PSS with error energy at most `quota` times its gain's square is the only possible hit of its root within 9
-- samples, wherever the PSS is in the recording
abbrev pub OnlyHitOfRootWithin : ℕ → Type 0
OnlyHitOfRootWithin quota =
    (recording : List Sample) (t u n2 : ℕ) → IsPrimaryWithin quota recording t n2 → u ≤ t + 9 → t ≤ u + 9 →
    IsHit recording u n2 → u ≡ t

-- ---- a clean signal

-- A clean PSS has an error energy up to 1800 times its gain's square, so no other root has a hit nearby. Its normalised
-- metric is then at least 0.999 instead of 0.99.
abbrev pub IsPrimaryAt : List Sample → ℕ → ℕ → Type 0
IsPrimaryAt recording t n2 = IsPrimaryWithin 1800 recording t n2

abbrev pub StandsOut : List Sample → ℕ → ℕ → Type 0
StandsOut recording t n2 = StandsOutBy 999 recording t n2

abbrev pub PrimaryStandsOut : Type 0
PrimaryStandsOut = PrimaryStandsOutBy 1800 999

abbrev pub PrimaryIsHit : Type 0
PrimaryIsHit = PrimaryIsHitWithin 1800

abbrev pub PrimaryIsListed : Type 0
PrimaryIsListed = PrimaryIsListedWithin 1800

-- a clean PSS is the only possible hit of any root within 9 samples, wherever the PSS is in the recording
abbrev pub OnlyHitNear : Type 0
OnlyHitNear =
    (recording : List Sample) (t u n2 m2 : ℕ) → IsPrimaryAt recording t n2 → m2 ≤ 2 → u ≤ t + 9 → t ≤ u + 9 →
    IsHit recording u m2 →
    (u ≡ t) × (m2 ≡ n2)
