use Rattle.std.proofs.Common.{◌≡◌, ◌∙◌, Bool, true, Some, get_or, length, ap, sym, subst}
use Rattle.std.proofs.lemmas.List.Elements.{AllWithin-upto}
use Rattle.std.proofs.Common.{false}
use Rattle.wide_block.specs.Sums.{Offer, Adding, plus_any}
use Rattle.wide_list.specs.Together.{is_alike, with_offer}
use Rattle.wide_list.proofs.Sums.{find_first, find_none}
use Rattle.wide_list.proofs.together.add_first.Goals as goal

pub returns-then-is_alike-clause-sums : goal.returns-then-is_alike-clause-sums
returns-then-is_alike-clause-sums c =
    let grant = c.args.grant.now in
    let offers = c.args.offers.now in
    let offer = c.offer-item.result in
    let at = c.loop-offer.offer-index in
    let passes : Offer → Bool = λ offer. is_alike grant offer.grant in
    let here : passes (get_or offers at offer) ≡ true =
    subst (λ offer. passes offer ≡ true) c.offer-item.is (ap (is_alike grant) (sym c.grant.ensures) ∙ sym c.if-is_alike.ensures) in
    let found = find_first passes offers at offer c.loop-offer.invariant.none c.loop-offer-test.true here in
    c.add.ensures.sums ∙ ap (λ (sums : Adding). plus_any sums.sums offer.sums) c.loop-offer.invariant.same
    ∙ ap (with_offer c.args.sums.now.sums) (ap (λ (offer : Offer). Some offer) c.offer-item.is ∙ sym found)

pub returns-clause-sums : goal.returns-clause-sums
returns-clause-sums c =
    let passes : Offer → Bool = λ offer. is_alike c.args.grant.now offer.grant in
    let none = AllWithin-upto (λ offer. passes offer ≡ false) c.args.offers.now 0 c.loop-offer.offer-index (length c.args.offers.now) c.loop-offer-test.false c.loop-offer.invariant.none in
    ap (λ (sums : Adding). sums.sums) c.loop-offer.invariant.same ∙ ap (with_offer c.args.sums.now.sums) (sym (find_none passes c.args.offers.now none))
