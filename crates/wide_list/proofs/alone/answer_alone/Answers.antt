use Rattle.std.proofs.Common.{◌≡◌, ◌∙◌, ◌<◌, List, length, get_or, ap, subst}
use Rattle.std.proofs.lemmas.List.Elements.{AllWithin-more, at_read}
use Rattle.wide_block.specs.Sums.{Offer}
use Rattle.wide_list.specs.First.{HasNone}
use Rattle.wide_list.specs.Frames.{HasFields, HasBits}
use Rattle.wide_list.proofs.Same.{no_fields}
use Rattle.wide_list.proofs.Reading.{reason_more}
use Rattle.wide_list.proofs.First.{first_here}
use Rattle.wide_list.proofs.Blocks.{AreIn, fields_of_bits}
use Rattle.wide_list.proofs.alone.answer_alone.Goals as goal

pub loop-at-preserved : goal.loop-at-preserved
loop-at-preserved c =
    let frame = c.args.frame.now in
    let at = c.loop-at.at in
    let offer = c.offer-item.result in
    let same : c.offers-offer-items.result.now ≡ frame.offers = c.offers-offer-items.ensures in
    let inside : at < length frame.offers = subst (λ (offers : List Offer). at < length offers) same c.loop-at-test.true in
    let is : offer ≡ get_or frame.offers at offer = c.offer-item.is ∙ ap (λ (offers : List Offer). get_or offers at offer) same in
    record {
      none = AllWithin-more (HasNone HasFields) frame.offers 0 at c.loop-at.invariant.none
          (at_read frame.offers (HasNone HasFields) at offer inside is (no_fields offer c.in-Err.other c.in-Err.ensures.answer));
      first = reason_more frame.elements frame.offers at offer c.loop-at.reason c.in-Err.other c.first_reason-reason.result inside is c.loop-at.invariant.first
          c.in-Err.ensures.answer c.first_reason-reason.ensures.first c.first_reason-reason.ensures.later;
    }

pub returns-in-Ok-clause-bits : goal.returns-in-Ok-clause-bits
returns-in-Ok-clause-bits c =
    let frame = c.args.frame.now in
    let at = c.loop-at.at in
    let offer = c.offer-item.result in
    let same : c.offers-offer-items.result.now ≡ frame.offers = c.offers-offer-items.ensures in
    let inside : at < length frame.offers = subst (λ (offers : List Offer). at < length offers) same c.loop-at-test.true in
    let is : offer ≡ get_or frame.offers at offer = c.offer-item.is ∙ ap (λ (offers : List Offer). get_or offers at offer) same in
    first_here HasFields HasBits AreIn fields_of_bits frame.offers at offer c.in-Ok.found.bits.items inside is c.loop-at.invariant.none c.in-Ok.ensures.bits
