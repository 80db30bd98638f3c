use Rattle.std.proofs.Common.{◌∙◌, ◌%◌, ◌++◌, ◌∷◌, [], List, eq-eqb, sym, subst}
use Rattle.std.specs.Prelude.{filter}
use Rattle.std.specs.List.{AllZip}
use Rattle.reasons.specs.declared.reason.Reason.{Reason}
use Rattle.reasons.specs.Reason.{has_root, IsFirstFailing}
use Rattle.reasons.proofs.Steps.{of_root}
use Rattle.reasons.proofs.reasons.add_failing.Goals as goal

pub returns-in_ok-push : goal.returns-in_ok-push
returns-in_ok-push g c before all =
    let hit = c.args.hit.now in
    let R = IsFirstFailing g.F.FrameReader.receiver c.args.recording.now c.args.id in
    subst (λ (items : List Reason). AllZip R (filter (has_root (c.args.id % 3)) (before ++ hit ∷ [])) items) (sym c.in_ok-push.ensures.items)
    (of_root (has_root (c.args.id % 3)) R before c.args.reasons.now.items hit c.first_failing.result (eq-eqb hit.n2 (c.args.id % 3) (c.if-hit-n2.true ∙ c.n2.ensures.value)) c.first_failing.ensures all)
