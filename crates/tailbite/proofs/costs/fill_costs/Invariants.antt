use Rattle.tailbite.specs.Costs.{HaveCosts}
use Rattle.tailbite.proofs.costs.fill_costs.Given as goal

abbrev pub invariant-loop-k : goal.invariant-loop-k
invariant-loop-k l = HaveCosts l.values l.tables l.k
