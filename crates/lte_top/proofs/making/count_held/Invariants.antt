use Rattle.std.proofs.Common.{◌≤◌, take}
use Rattle.lte_top.specs.Making.{Counts, IsSentCell}
use Rattle.lte_top.proofs.making.count_held.Given as goal

abbrev pub invariant-loop-entry : goal.invariant-loop-entry
invariant-loop-entry l = record {
  counts : Counts (IsSentCell l.cell) (take l.entry-index l.list) l.held;
  bound : l.held ≤ l.entry-index;
}
