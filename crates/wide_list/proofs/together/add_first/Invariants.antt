use Rattle.std.proofs.Common.{◌≡◌, false}
use Rattle.std.specs.List.{AllWithin}
use Rattle.wide_list.specs.Together.{is_alike}
use Rattle.wide_list.proofs.together.add_first.Given as goal

-- no offer so far is like the grant, and nothing was added
abbrev pub invariant-loop-offer : goal.invariant-loop-offer
invariant-loop-offer l = record {
  none : AllWithin (λ offer. is_alike l.grant offer.grant ≡ false) l.offers 0 l.offer-index;
  same : l.sums ≡ l.initial.sums;
}
