use Rattle.std.proofs.Common.{take}
use Rattle.std.specs.List.{AllZip}
use Rattle.lte_types.specs.Carrier.{carriers}
use Rattle.lte_top.specs.Searching.{IsListAt}
use Rattle.lte_top.proofs.searching.lists_of.Given as goal

abbrev pub invariant-loop-carrier : goal.invariant-loop-carrier
invariant-loop-carrier l = AllZip (λ carrier. IsListAt carrier l.signal) (take l.carrier-index carriers) l.lists.items
