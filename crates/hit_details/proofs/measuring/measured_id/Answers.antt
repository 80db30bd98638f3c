use Rattle.std.proofs.Common.{◌≡◌, ◌∙◌, ap}
use Rattle.lte_types.specs.Numerology.{normal}
use Rattle.hit_details.specs.declared.hits.IdentifiedHit.{IdentifiedHit}
use Rattle.hit_details.specs.declared.hits.MeasuredHit.{MeasuredHit}
use Rattle.hit_details.specs.declared.hits.MeasuredId.{MeasuredId}
use Rattle.sss_detect.specs.declared.rank.Ranking.{Ranking}
use Rattle.sss_detect.specs.Identity.{identity_of, prefix_identity}
use Rattle.sss_detect.specs.Second.{ranking_of, prefix_ranking}
use Rattle.hit_details.specs.Details.{identified, identified_by}
use Rattle.hit_details.proofs.measuring.measured_id.Goals as goal

abbrev made : IdentifiedHit → Ranking → MeasuredHit → MeasuredId
made found ranking measured = record { found = found; ranking = ranking; peak = measured.peak; energy = measured.energy; power = measured.power }

pub returns : goal.returns
unfolding prefix_ranking ranking_of prefix_identity
returns c =
    let samples = c.args.recording.now in
    let hit = c.args.hit.now in
    let ranking = c.ranking_with-ranking in
    let measured = c.measured-measured in
    let pair : (ranking.result.best.n1, ranking.result.best.half) ≡ identity_of samples hit = ap (λ (two : Ranking). (two.best.n1, two.best.half)) ranking.ensures.value in
    ap (λ found. made found ranking.result measured.result) (c.identified.ensures ∙ ap (identified_by hit) pair)
    ∙ ap (λ two. made (identified samples hit) two measured.result) ranking.ensures.value
    ∙ ap (made (identified samples hit) (prefix_ranking normal samples hit)) measured.ensures
