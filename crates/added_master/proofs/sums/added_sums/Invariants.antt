use Rattle.std.proofs.Common.{◌≡◌, ◌*◌}
use Rattle.finite.specs.Sizes.{RowsWithin}
use Rattle.added_master.proofs.Adding.{sums_so_far}
use Rattle.added_master.proofs.sums.added_sums.Given as goal

abbrev pub invariant-loop-d : goal.invariant-loop-d
invariant-loop-d l = record {
  so_far : l.added ≡ sums_so_far l.d l.sums l.upper;
  small : RowsWithin (l.d * 2032) l.added;
}
