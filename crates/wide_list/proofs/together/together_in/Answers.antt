use Rattle.std.proofs.Common.{◌≡◌, ◌∙◌, ◌<◌, Err, List, length, get_or, ap, subst}
use Rattle.std.proofs.lemmas.List.Elements.{AllWithin-more, at_read}
use Rattle.wide_block.specs.Sums.{Offer}
use Rattle.wide_list.specs.First.{HasNone}
use Rattle.wide_list.specs.Together.{AnswersWith, HasFieldsWith, HasBitsWith}
use Rattle.wide_list.proofs.Same.{no_fields_with}
use Rattle.wide_list.proofs.First.{first_here}
use Rattle.wide_list.proofs.Blocks.{AreIn, fields_of_bits_with}
use Rattle.wide_list.proofs.together.together_in.Goals as goal

pub loop-offer-preserved : goal.loop-offer-preserved
loop-offer-preserved c =
    let frames = c.args.frames.now in
    let frame = c.args.frame.now in
    let at = c.loop-offer.offer-index in
    let offer = c.offer-item.result in
    let same : c.offers-offer-items.result.now ≡ frame.offers = c.offers-offer-items.ensures in
    let inside : at < length frame.offers = subst (λ (offers : List Offer). at < length offers) same c.loop-offer-test.true in
    let is : offer ≡ get_or frame.offers at offer = c.offer-item.is ∙ ap (λ (offers : List Offer). get_or offers at offer) same in
    let answers : AnswersWith frames frame.period offer (Err c.in-Err.field-0) =
    subst (λ period. AnswersWith frames period offer (Err c.in-Err.field-0)) c.period.ensures c.in-Err.ensures.answer in
    AllWithin-more (HasNone (HasFieldsWith frames frame.period)) frame.offers 0 at c.loop-offer.invariant
    (at_read frame.offers (HasNone (HasFieldsWith frames frame.period)) at offer inside is (no_fields_with frames frame.period offer c.in-Err.field-0 answers))

pub returns-in-Ok-clause-bits : goal.returns-in-Ok-clause-bits
returns-in-Ok-clause-bits c =
    let frames = c.args.frames.now in
    let frame = c.args.frame.now in
    let at = c.loop-offer.offer-index in
    let offer = c.offer-item.result in
    let bits = c.in-Ok.found.bits.items in
    let same : c.offers-offer-items.result.now ≡ frame.offers = c.offers-offer-items.ensures in
    let inside : at < length frame.offers = subst (λ (offers : List Offer). at < length offers) same c.loop-offer-test.true in
    let is : offer ≡ get_or frame.offers at offer = c.offer-item.is ∙ ap (λ (offers : List Offer). get_or offers at offer) same in
    let has : HasBitsWith frames frame.period offer bits = subst (λ period. HasBitsWith frames period offer bits) c.period.ensures c.in-Ok.ensures.bits in
    first_here (HasFieldsWith frames frame.period) (HasBitsWith frames frame.period) AreIn (fields_of_bits_with frames frame.period)
    frame.offers at offer bits inside is c.loop-offer.invariant has
