use Rattle.std.proofs.Common.{[], get_or, sym, ◌∙◌}
use Rattle.std.proofs.lemmas.Bool.{leb-true, le-leb}
use Rattle.tail_cert.specs.Certificate.{from_state}
use Rattle.tail_cert.specs.Stored.{has_table}
use Rattle.tail_cert.proofs.Shown.{start_there}
use Rattle.tail_cert.proofs.Tables.{steps_from}
use Rattle.tail_cert.proofs.checker.start_holds.Goals as goal

pub returns-then-steps_hold : goal.returns-then-steps_hold
returns-then-steps_hold c =
    let values = c.args.costs.now.values.now in
    let own = start_there values c.args.cost c.args.general.now c.args.s (get_or c.args.tables.now c.args.s []) (has_table c.args.set.now c.args.s) (sym c.has.ensures ∙ c.if-has.true) in
    ((λ end. own.0 (steps_from values _ (from_state c.args.s) _ c.row_from.ensures (c.steps_hold.ensures.0 c.if-steps_hold.true), leb-true _ _ end)), λ h. le-leb _ _ (own.1 h).1)

pub returns-else-steps_hold : goal.returns-else-steps_hold
returns-else-steps_hold c =
    let values = c.args.costs.now.values.now in
    let own = start_there values c.args.cost c.args.general.now c.args.s (get_or c.args.tables.now c.args.s []) (has_table c.args.set.now c.args.s) (sym c.has.ensures ∙ c.if-has.true) in (
      (λ t. let f = c.if-steps_hold.false in cc),
      λ h. c.steps_hold.ensures.1 (steps_from values (from_state c.args.s) _ _ (λ x below. sym (c.row_from.ensures x below)) (own.1 h).0),
    )
