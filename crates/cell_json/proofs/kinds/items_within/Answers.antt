use Rattle.std.proofs.Common.{length, sym, ◌∙◌, ap, arith, Some}
use Rattle.serde_json.specs.View.{view, items_view}
use Rattle.cell_json.proofs.Lists.{counted, so_many, not_so_many}
use Rattle.cell_json.proofs.kinds.items_within.Goals as goal

pub returns-then-items-most-clause-value : goal.returns-then-items-most-clause-value
returns-then-items-most-clause-value c =
    let vs = c.as_slice-items.result.now in
    so_many (length vs) c.args.least c.args.most (items_view vs) (omega (arith, c.if-least-items.true)) (omega (arith, c.if-items-most.true))
    ∙ sym (counted vs (view c.args.value.now) c.args.least c.args.most (ap (λ xs. Some (items_view xs)) c.as_slice-items.ensures.value ∙ c.in_ok-as_array.ensures))

pub returns-else-least-items-clause-value : goal.returns-else-least-items-clause-value
returns-else-least-items-clause-value c =
    let vs = c.as_slice-items.result.now in
    not_so_many (length vs) c.args.least c.args.most (items_view vs) (λ above below. grind (arith, above, below, c.else-least-items.either))
    ∙ sym (counted vs (view c.args.value.now) c.args.least c.args.most (ap (λ xs. Some (items_view xs)) c.as_slice-items.ensures.value ∙ c.in_ok-as_array.ensures))
