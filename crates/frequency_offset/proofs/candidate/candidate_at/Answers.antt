use Rattle.std.proofs.Common.{◌∙◌, ap, rules, sym, Some, None, length, w16, FitsSigned}
use Rattle.std.proofs.lemmas.Int.{to_z-of_z}
use Rattle.frequency_offset.specs.Fractions.{fraction_of}
use Rattle.frequency_offset.specs.Candidates.{coarse_turn}
use Rattle.frequency_offset.specs.Steps.{IsSmallHit}
use Rattle.frequency_offset.proofs.Greatest.{greatest_has}
use Rattle.frequency_offset.proofs.OneCandidate.{is_turned, candidate_is, hits_counted, small_estimate}
use Rattle.frequency_offset.proofs.candidate.candidate_at.Goals as goal

pub best_hit-requires : goal.best_hit-requires
best_hit-requires c =
    let f : FitsSigned w16 c.coarse_turn-m.result = search rules in
    let is = is_turned c.args.centred.now c.turned-turned.result c.args.k c.coarse_turn-m.result _ c.turned-turned.ensures (to_z-of_z w16 c.coarse_turn-m.result f) c.coarse_turn-m.ensures.value in
    let hits = hits_counted c.turned-turned.result _ _ _ c.in_ok-front.ensures c.hits.ensures.list c.slice-hits.ensures in
    small_estimate c.args.centred.now c.turned-turned.result (coarse_turn c.args.k) c.slice-hits.result.now is hits

pub candidate_by-requires-clause-best : goal.candidate_by-requires-clause-best
candidate_by-requires-clause-best c =
    let f : FitsSigned w16 c.coarse_turn-m.result = search rules in
    let is = is_turned c.args.centred.now c.turned-turned.result c.args.k c.coarse_turn-m.result _ c.turned-turned.ensures (to_z-of_z w16 c.coarse_turn-m.result f) c.coarse_turn-m.ensures.value in
    let hits = hits_counted c.turned-turned.result _ _ _ c.in_ok-front.ensures c.hits.ensures.list c.slice-hits.ensures in
    greatest_has IsSmallHit fraction_of c.slice-hits.result.now c.in-Some.best (small_estimate c.args.centred.now c.turned-turned.result (coarse_turn c.args.k) c.slice-hits.result.now is hits) (sym c.in-Some.ensures)

pub candidate_by-requires-clause-hits : goal.candidate_by-requires-clause-hits
candidate_by-requires-clause-hits c =
    ap length (hits_counted c.turned-turned.result _ _ _ c.in_ok-front.ensures c.hits.ensures.list c.slice-hits.ensures)

pub returns-in-Some : goal.returns-in-Some
returns-in-Some c =
    let f : FitsSigned w16 c.coarse_turn-m.result = search rules in
    let is = is_turned c.args.centred.now c.turned-turned.result c.args.k c.coarse_turn-m.result _ c.turned-turned.ensures (to_z-of_z w16 c.coarse_turn-m.result f) c.coarse_turn-m.ensures.value in
    let hits = hits_counted c.turned-turned.result _ _ _ c.in_ok-front.ensures c.hits.ensures.list c.slice-hits.ensures in
    ap Some c.candidate_by.ensures
    ∙ candidate_is c.args.centred.now c.turned-turned.result c.args.k c.slice-hits.result.now (Some c.in-Some.best) is hits c.in-Some.ensures

pub returns : goal.returns
returns c =
    let f : FitsSigned w16 c.coarse_turn-m.result = search rules in
    let is = is_turned c.args.centred.now c.turned-turned.result c.args.k c.coarse_turn-m.result _ c.turned-turned.ensures (to_z-of_z w16 c.coarse_turn-m.result f) c.coarse_turn-m.ensures.value in
    let hits = hits_counted c.turned-turned.result _ _ _ c.in_ok-front.ensures c.hits.ensures.list c.slice-hits.ensures in
    candidate_is c.args.centred.now c.turned-turned.result c.args.k c.slice-hits.result.now None is hits c.in-None.ensures
