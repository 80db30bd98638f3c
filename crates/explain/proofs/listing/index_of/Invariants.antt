use Rattle.std.specs.List.{AllWithin}
use Rattle.explain.specs.Entries.{IsBefore}
use Rattle.explain.proofs.listing.index_of.Given as goal

abbrev pub invariant-loop-at : goal.invariant-loop-at
invariant-loop-at l = AllWithin (λ other. IsBefore other l.entry) l.list 0 l.at
