use Rattle.std.proofs.Common.{◌≡◌, ◌+◌, ◌*◌, ◌%◌}
use Rattle.turbo_code.specs.Walk.{standing}
use Rattle.turbo_code.proofs.Sums.{AreSums}
use Rattle.turbo_code.proofs.matching.combine.Given as goal

abbrev pub invariant-loop-value : goal.invariant-loop-value
invariant-loop-value l = record {
  sums : AreSums l.row.k l.rv l.values l.value-index l.d;
  at : l.walk ≡ standing l.row.k l.rv (l.value-index % (3 * (l.row.k + 4)));
}
