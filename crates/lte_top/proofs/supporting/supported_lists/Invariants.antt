use Rattle.std.proofs.Common.{take}
use Rattle.std.specs.List.{AllZip}
use Rattle.lte_types.specs.Carrier.{carriers}
use Rattle.lte_top.specs.Supporting.{IsSupportedAt}
use Rattle.lte_top.proofs.supporting.supported_lists.Given as goal

abbrev pub invariant-loop-carrier : goal.invariant-loop-carrier
invariant-loop-carrier l = AllZip (λ carrier. IsSupportedAt carrier l.signal) (take l.carrier-index carriers) l.lists.items
