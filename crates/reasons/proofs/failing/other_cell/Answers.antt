use Rattle.std.proofs.Common.{◌∙◌, ap}
use Rattle.lte_types.specs.CellPlace.{Place}
use Rattle.lte_types.specs.Carrier.{prefix_of}
use Rattle.lte_types.specs.declared.numerology.Prefix.{Prefix}
use Rattle.sss_detect.specs.declared.rank.Ranking.{Ranking}
use Rattle.sss_detect.specs.Identity.{prefix_identity}
use Rattle.sss_detect.specs.Second.{ranking_of, prefix_group_choice, prefix_ranking}
use Rattle.reasons.proofs.failing.other_cell.Goals as goal

pub returns : goal.returns
unfolding prefix_ranking ranking_of prefix_identity
returns c i =
    let recording = c.args.recording.now in
    let hit = c.args.hit.now in
    record {
      t = hit.t;
      ratio = c.ratio_of.ensures i;
      id = (c.id.ensures ∙ ap (λ (p : Place). p.id) c.place_of.ensures) i;
      best = (ap (λ (r : Ranking). r.best) (c.ranking_with-ranking.ensures.value ∙ ap (λ (p : Prefix). prefix_ranking p recording hit) c.prefix-prefix.ensures)) i;
      own = (c.group_choice_with-own.ensures ∙ ap (λ (p : Prefix). prefix_group_choice p recording hit c.n1.result) c.prefix-prefix.ensures
          ∙ ap (prefix_group_choice (prefix_of c.args.carrier) recording hit) c.n1.ensures.value) i;
    }
