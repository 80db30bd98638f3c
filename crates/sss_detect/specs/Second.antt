-- The second-best pair of an identity group and a half-frame, and the two best pairs with their scores. (own)
use Rattle.std.specs.Prelude.{◌≢◌, ℕ, ◌+◌, ◌-◌, ◌≤◌, List, ℤ, ◌<ℤ◌, ◌≤ℤ◌, int_lt, nat_lt, if◌then◌else◌}
use Rattle.cs_num.specs.declared.Sample.{Sample}
use Rattle.lte_types.specs.declared.frame.Half.{Half}
use Rattle.lte_types.specs.declared.frame.Half.TheVariants.{Zero, Five}
use Rattle.lte_types.specs.declared.hit.Hit.{Hit}
use Rattle.lte_types.specs.declared.numerology.Prefix.{Prefix}
use Rattle.sss_detect.specs.declared.rank.Choice.{Choice}
use Rattle.sss_detect.specs.declared.rank.Ranking.{Ranking}
use Rattle.sss_detect.specs.Identity.{IsBefore, first_greatest, best_pair, prefix_scores}

-- among the 335 pairs of an identity group and a half-frame other than `best`, the pair of `n1` and `half` has the
-- maximum score, and each earlier pair has a smaller score
pub record IsSecond (scores : ℕ → Half → ℤ) (best : ℕ × Half) (n1 : ℕ) (half : Half) : Type 0 where
  pub known : n1 ≤ 167
  pub another : (n1, half) ≢ best
  pub greatest : (m : ℕ) (other : Half) → m ≤ 167 → (m, other) ≢ best → scores m other ≤ℤ scores n1 half
  pub first : (m : ℕ) (other : Half) → m ≤ 167 → (m, other) ≢ best → IsBefore m other n1 half →
      scores m other <ℤ scores n1 half

-- the pair of an identity group and a half-frame with the number `place`, 0 to 335: first the pairs of subframe 0 in
-- group order, then the pairs of subframe 5
abbrev pub pair_at : ℕ → ℕ × Half
pair_at place = if nat_lt place 168 then (place, Zero) else (place - 168, Five)

-- the number, 0 to 335, of a pair of an identity group and a half-frame: subframe 0 has 0 to 167, in group order,
-- subframe 5 has 168 to 335
abbrev pub place_of : ℕ × Half → ℕ
place_of (n1, Zero) = n1
place_of (n1, Five) = 168 + n1

-- the score of the pair of an identity group and a half-frame with the number `place`
abbrev pub score_at : (ℕ → Half → ℤ) → ℕ → ℤ
score_at scores place = scores (pair_at place).0 (pair_at place).1

-- the index at position i if index `taken` is removed from 0, 1, 2 and so on
abbrev pub left_without : ℕ → ℕ → ℕ
left_without taken i = if nat_lt i taken then i else i + 1

-- the index of the first maximum among f 0 to f (n + 1), with index `taken` left out
abbrev pub next_greatest : (ℕ → ℤ) → ℕ → ℕ → ℕ
next_greatest f taken n = left_without taken (first_greatest (λ i. f (left_without taken i)) n)

-- the second-best pair of an identity group and a half-frame: of all 335 except `best_pair`, the pair with the maximum
-- score, the lowest-numbered of several
unfoldable pub second_pair : (ℕ → Half → ℤ) → ℕ × Half
second_pair scores = pair_at (next_greatest (score_at scores) (place_of (best_pair scores)) 334)

-- ---- the two best pairs with their scores

-- a pair of an identity group and a half-frame, with its score
abbrev pub choice_of : (ℕ → Half → ℤ) → ℕ × Half → Choice
choice_of scores pair = record { n1 = pair.0; half = pair.1; score = scores pair.0 pair.1 }

-- the best and second-best pairs of an identity group and a half-frame, with their scores
unfoldable pub ranking_of : (ℕ → Half → ℤ) → Ranking
ranking_of scores = record {
  best = choice_of scores (best_pair scores);
  second = choice_of scores (second_pair scores);
}

-- a hit's best and second-best pairs of an identity group and a half-frame for a cyclic prefix, with their scores
unfoldable pub prefix_ranking : Prefix → List Sample → Hit → Ranking
prefix_ranking prefix recording hit = ranking_of (prefix_scores prefix recording hit)

-- ---- the two half-frames of one identity group

-- the half-frame that scores better with identity group `n1`, with its score; subframe 0 if both scores are equal
unfoldable pub group_choice : (ℕ → Half → ℤ) → ℕ → Choice
group_choice scores n1 =
    if int_lt (scores n1 Zero) (scores n1 Five) then choice_of scores (n1, Five) else choice_of scores (n1, Zero)

-- the half-frame that scores better with an identity group at the PSS detection `hit`, with its score, for a cyclic
-- prefix
abbrev pub prefix_group_choice : Prefix → List Sample → Hit → ℕ → Choice
prefix_group_choice prefix recording hit = group_choice (prefix_scores prefix recording hit)
