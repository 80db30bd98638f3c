-- The best pair of a hit is the one that the list identifies it by.
use Rattle.std.proofs.Common.{◌≡◌, ℕ, ap₂, sym, subst, List}
use Rattle.cs_num.specs.declared.Sample.{Sample}
use Rattle.lte_types.specs.declared.frame.Half.{Half}
use Rattle.lte_types.specs.declared.hit.Hit.{Hit}
use Rattle.lte_types.specs.declared.numerology.Prefix.{Prefix}
use Rattle.sss_detect.specs.Identity.{IsBest, prefix_scores, prefix_identity}
use Rattle.sss_detect.proofs.Choices.{best_pair_is_best, only_one_is_best}

pub identified_by_best : (prefix : Prefix) (recording : List Sample) (hit : Hit) (n1 : ℕ) (half : Half) → IsBest (prefix_scores prefix recording hit) n1 half → prefix_identity prefix recording hit ≡ (n1, half)
unfolding prefix_identity
identified_by_best prefix recording hit n1 half best =
    let only = only_one_is_best (prefix_scores prefix recording hit) n1 half best in ap₂ (λ (n : ℕ) (h : Half). let pair : ℕ × Half = (n, h) in pair) (sym only.0) (sym only.1)

-- and the other way round
pub best_of_identified : (prefix : Prefix) (recording : List Sample) (hit : Hit) (n1 : ℕ) (half : Half) → prefix_identity prefix recording hit ≡ (n1, half) → IsBest (prefix_scores prefix recording hit) n1 half
unfolding prefix_identity
best_of_identified prefix recording hit n1 half same =
    subst (λ (pair : ℕ × Half). IsBest (prefix_scores prefix recording hit) pair.0 pair.1) same (best_pair_is_best (prefix_scores prefix recording hit))
