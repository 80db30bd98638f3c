use Rattle.std.proofs.Common.{◌≡◌, map, take}
use Rattle.wide_block.specs.Sums.{offer_of}
use Rattle.wide_list.proofs.offers.offers_of.Given as goal

abbrev pub invariant-loop-grant : goal.invariant-loop-grant
invariant-loop-grant l = l.offers.items ≡ map (offer_of l.first l.second l.cfi) (take l.grant-index l.grants)
