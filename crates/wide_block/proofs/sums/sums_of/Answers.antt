use Rattle.std.proofs.Common.{List, ℤ, Option, Some, option_map, ap, ◌∙◌}
use Rattle.turbo_code.specs.Reading.{summed}
use Rattle.wide_grant.specs.declared.grant.WideGrant.{WideGrant}
use Rattle.wide_block.specs.Sums.{Offer, grant_sums, offer_of}
use Rattle.wide_block.proofs.sums.sums_of.Goals as goal

offer : WideGrant → Option (List (List ℤ)) → Offer
offer grant sums = record { grant = grant; sums = sums }

pub returns-in_ok-values-in-Some : goal.returns-in_ok-values-in-Some
unfolding offer_of offer
returns-in_ok-values-in-Some c =
    let row = c.in-Some.row in
    let values = c.deref.ensures.value ∙ c.in_ok-values-in-Some.ensures.values in
    let sums = c.combined.ensures.sums ∙ ap (summed row.k c.args.grant.now.rv) values in
    let found = ap (option_map (grant_sums c.args.first.now c.args.second.now c.args.cfi c.args.grant.now)) c.in-Some.ensures.value in
    ap (offer c.args.grant.now) (ap Some sums ∙ found)

pub returns-in-None : goal.returns-in-None
unfolding offer_of offer
returns-in-None c =
    ap (λ row. offer c.args.grant.now (option_map (grant_sums c.args.first.now c.args.second.now c.args.cfi c.args.grant.now) row)) c.in-None.ensures.value
