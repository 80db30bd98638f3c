use Rattle.std.proofs.Common.{◌∙◌}
use Rattle.std.proofs.lemmas.Result.{on_ok_weaker}
use Rattle.wide_control.specs.declared.format.DciFormat.TheVariants.{Format1A, Format1C}
use Rattle.wide_control.proofs.Found.{finds_by, two_more}
use Rattle.wide_control.proofs.control.add_offers.Goals as goal

pub returns-clause-grants : goal.returns-clause-grants
returns-clause-grants c =
    let slot = c.args.slot.now in
    let groups = c.args.groups.now in
    let long = finds_by slot c.args.sfn groups c.args.candidate Format1A c.offer-long.result c.cell.result.now c.deref.result.now
    c.cell.ensures (c.deref.ensures.value ∙ c.in_ok-values.ensures.values) c.offer-long.ensures.offer in
    let short = finds_by slot c.args.sfn groups c.args.candidate Format1C c.offer-short.result c.cell-2.result.now c.deref-2.result.now
    c.cell-2.ensures (c.deref-2.ensures.value ∙ c.in_ok-values.ensures.values) c.offer-short.ensures.offer in
    on_ok_weaker c.add_offer-2.result
    (λ added done are. two_more slot c.args.sfn groups done c.args.candidate c.offer-long.result c.offer-short.result
    c.args.grants.now.items c.add_offer.new.grants.items c.add_offer-2.new.grants.items are long c.in_ok-add_offer.ensures.grants short added)
    c.add_offer-2.ensures.grants
