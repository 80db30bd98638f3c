-- The identity group and the half-frame for a hit. (own; the signals are in TS 36.211 section 6.11)
use Rattle.std.specs.Prelude.{ℕ, zero, suc, ◌-◌, ◌<◌, ◌≤◌, List, ℤ, ◌<ℤ◌, ◌≤ℤ◌, int_lt, if◌then◌else◌}
use Rattle.cs_num.specs.declared.Sample.{Sample}
use Rattle.lte_types.specs.declared.frame.Half.{Half}
use Rattle.lte_types.specs.declared.frame.Half.TheVariants.{Zero, Five}
use Rattle.lte_types.specs.declared.hit.Hit.{Hit}
use Rattle.lte_types.specs.declared.numerology.Prefix.{Prefix}
use Rattle.lte_types.specs.Numerology.{normal, symbol_step}
use Rattle.observe.specs.Seen.{seen}
use Rattle.sss_detect.specs.Scores.{score}

-- group `m` with its half-frame comes before group `n` with its half-frame: subframe 0 before subframe 5, then the
-- lower group
abbrev pub IsBefore : ℕ → Half → ℕ → Half → Type 0
IsBefore m Zero n Zero = m < n
IsBefore m Zero n Five = Unit {0}
IsBefore m Five n Zero = ⊥
IsBefore m Five n Five = m < n

-- among all 336 pairs of an identity group and a half-frame, the pair of `n1` and `half` has the maximum score, and
-- each earlier pair has a smaller score
pub record IsBest (scores : ℕ → Half → ℤ) (n1 : ℕ) (half : Half) : Type 0 where
  pub known : n1 ≤ 167
  pub greatest : (m : ℕ) (other : Half) → m ≤ 167 → scores m other ≤ℤ scores n1 half
  pub first : (m : ℕ) (other : Half) → m ≤ 167 → IsBefore m other n1 half → scores m other <ℤ scores n1 half

-- the index of the first maximum among f 0 to f n
unfoldable pub first_greatest : (ℕ → ℤ) → ℕ → ℕ
first_greatest f zero = 0
first_greatest f (suc n) = if int_lt (f (first_greatest f n)) (f (suc n)) then suc n else first_greatest f n

-- the identity group with the maximum score in a half-frame, the lowest of several
abbrev pub best_group : (ℕ → Half → ℤ) → Half → ℕ
best_group scores half = first_greatest (λ n1. scores n1 half) 167

-- the pair of an identity group and a half-frame with the maximum score: subframe 0 if both half-frames have the
-- maximum, and the lowest group of several
unfoldable pub best_pair : (ℕ → Half → ℤ) → ℕ × Half
best_pair scores =
    if int_lt (scores (best_group scores Zero) Zero) (scores (best_group scores Five) Five)
    then (best_group scores Five, Five)
    else (best_group scores Zero, Zero)

-- a hit's scores by identity group and half-frame, for a cyclic prefix: from the primary symbol at the hit and the
-- secondary symbol immediately before it
abbrev pub prefix_scores : Prefix → List Sample → Hit → ℕ → Half → ℤ
prefix_scores prefix recording hit = score (seen recording hit.t) (seen recording (hit.t - symbol_step prefix)) hit.n2

-- a hit's identity group and half-frame for a cyclic prefix
unfoldable pub prefix_identity : Prefix → List Sample → Hit → ℕ × Half
prefix_identity prefix recording hit = best_pair (prefix_scores prefix recording hit)

-- ---- the normal cyclic prefix

-- a hit's scores by identity group and half-frame, for the normal cyclic prefix
abbrev pub scores_of : List Sample → Hit → ℕ → Half → ℤ
scores_of recording hit = prefix_scores normal recording hit

-- a hit's identity group and half-frame, for the normal cyclic prefix
abbrev pub identity_of : List Sample → Hit → ℕ × Half
identity_of recording hit = prefix_identity normal recording hit
