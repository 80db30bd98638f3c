use Rattle.std.proofs.Common.{refl}
use Rattle.std.proofs.lemmas.List.Elements.{AllWithin-none, AllWithin-more, at_read}
use Rattle.explain.specs.Entries.{IsBefore}
use Rattle.explain.proofs.listing.index_of.Goals as goal

pub loop-at-init : goal.loop-at-init
loop-at-init c = AllWithin-none (λ other. IsBefore other c.args.entry.now) c.args.list.now 0

pub loop-at-preserved : goal.loop-at-preserved
loop-at-preserved c =
    AllWithin-more (λ other. IsBefore other c.args.entry.now) c.args.list.now 0 c.loop-at.at c.loop-at.invariant
    (at_read c.args.list.now (λ other. IsBefore other c.args.entry.now) c.loop-at.at c.index-list-at.result c.loop-at-test.true c.index-list-at.is (c.if-not-is_before.ensures.0 refl))

pub returns-then-not-is_before-clause-before : goal.returns-then-not-is_before-clause-before
returns-then-not-is_before-clause-before c = c.loop-at.invariant
