use Rattle.std.proofs.Common.{◌≡◌, ◌≤◌, ◌∙◌, length, get_or, ap, arith, subst}
use Rattle.std.proofs.lemmas.List.{get_or_default}
use Rattle.lte_types.specs.declared.hit.Hit.{Hit}
use Rattle.lte_types.specs.Carrier.{prefix_of}
use Rattle.lte_types.specs.Numerology.{symbol_step}
use Rattle.explain.specs.Receiver.{has_step_before}
use Rattle.explain.proofs.Late.{kept_from, later_pass}
use Rattle.explain.proofs.hit_list.early_hits.Goals as goal

pub returns-then-step-hit-clause-later : goal.returns-then-step-hit-clause-later
returns-then-step-hit-clause-later c =
    let hits = c.args.hits.now in
    let none : Hit = record { t = 0; n2 = 0; peak = 0; energy = 0 } in
    let step : c.step-step.result ≡ symbol_step (prefix_of c.args.carrier) = c.step-step.ensures ∙ ap symbol_step c.prefix.ensures in
    let here : symbol_step (prefix_of c.args.carrier) ≤ (get_or hits c.loop-at.at none).t = omega (arith, step, c.if-step-hit.true) in
    kept_from (has_step_before c.args.carrier) hits c.loop-at.at (omega (arith, c.loop-at-test.true)) c.loop-at.invariant.early
    (λ k d above inside. later_pass c.args.carrier hits c.loop-at.at k d c.requires.span c.requires.order
    (subst (λ (h : Hit). symbol_step (prefix_of c.args.carrier) ≤ h.t) (get_or_default hits c.loop-at.at none d c.loop-at-test.true) here) above inside)

pub returns-clause-later : goal.returns-clause-later
returns-clause-later c =
    let hits = c.args.hits.now in
    kept_from (has_step_before c.args.carrier) hits (length hits) (omega arith) (λ k d below. c.loop-at.invariant.early k d (omega (arith, below, c.loop-at-test.false, c.loop-at.auto.at-end)))
    (λ k d above inside. absurd (omega (arith, above, inside)))
