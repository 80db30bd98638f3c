-- In recordings that agree a hit has the same identity and frame start.
use Rattle.std.proofs.Common.{◌≡◌, ℕ, ◌+◌, ◌-◌, ◌≤◌, List, arith, refl, ap}
use Rattle.std.proofs.Math.Path.{fun_ext}
use Rattle.cs_num.specs.declared.Sample.{Sample}
use Rattle.lte_types.specs.declared.frame.Half.{Half}
use Rattle.lte_types.specs.declared.hit.Hit.{Hit}
use Rattle.lte_types.specs.declared.numerology.Prefix.{Prefix}
use Rattle.lte_types.specs.Identity.{cell_of}
use Rattle.lte_types.specs.Numerology.{normal, symbol_step}
use Rattle.sample_file.specs.Recording.{AgreeBefore}
use Rattle.observe.proofs.Agree.{seen_agrees}
use Rattle.observe.specs.Seen.{seen}
use Rattle.sss_detect.specs.Identity.{prefix_scores, identity_of, prefix_identity, best_pair}
use Rattle.sss_detect.specs.Place.{prefix_place, start_by_hit}
use Rattle.sss_detect.specs.Second.{prefix_ranking, ranking_of}

-- the scores are the same
pub scores_agree : (prefix : Prefix) (count : ℕ) (a b : List Sample) (hit : Hit) → AgreeBefore count a b → hit.t + 128 ≤ count → prefix_scores prefix a hit ≡ prefix_scores prefix b hit
scores_agree prefix count a b hit agree within =
    let step = symbol_step prefix in
    let primary : seen a hit.t ≡ seen b hit.t = fun_ext (seen_agrees count hit.t a b agree within) in
    let secondary : seen a (hit.t - step) ≡ seen b (hit.t - step) = fun_ext (seen_agrees count (hit.t - step) a b agree (omega (arith, within))) in
    rw (primary, secondary) refl

pub prefix_agrees : (prefix : Prefix) (count : ℕ) (a b : List Sample) (hit : Hit) → AgreeBefore count a b → hit.t + 128 ≤ count → prefix_identity prefix a hit ≡ prefix_identity prefix b hit
unfolding prefix_identity
prefix_agrees prefix count a b hit agree within = ap best_pair (scores_agree prefix count a b hit agree within)

pub identity_agrees : (count : ℕ) (a b : List Sample) (hit : Hit) → AgreeBefore count a b → hit.t + 128 ≤ count → identity_of a hit ≡ identity_of b hit
identity_agrees = prefix_agrees normal

pub place_agrees : (prefix : Prefix) (count : ℕ) (a b : List Sample) (hit : Hit) → AgreeBefore count a b → hit.t + 128 ≤ count → prefix_place prefix a hit ≡ prefix_place prefix b hit
place_agrees prefix count a b hit agree within =
    ap (λ (pair : ℕ × Half). record { id = cell_of pair.0 hit.n2; start = start_by_hit hit.t pair.1 }) (prefix_agrees prefix count a b hit agree within)

pub ranking_agrees : (prefix : Prefix) (count : ℕ) (a b : List Sample) (hit : Hit) → AgreeBefore count a b → hit.t + 128 ≤ count → prefix_ranking prefix a hit ≡ prefix_ranking prefix b hit
unfolding prefix_ranking
ranking_agrees prefix count a b hit agree within = ap ranking_of (scores_agree prefix count a b hit agree within)
