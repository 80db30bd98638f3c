use Rattle.std.proofs.Common.{◌≡◌, ◌*◌, ◌≤◌, nat_abs, slice_index_or, pos}
use Rattle.finite.specs.Sums.{sum_below}
use Rattle.code_distance.proofs.separation.sum_of_first.Given as goal

abbrev pub invariant-loop-i : goal.invariant-loop-i
invariant-loop-i l = record {
  so_far : l.sum ≡ sum_below l.i (λ i. slice_index_or l.values i (pos 0));
  small : nat_abs l.sum ≤ l.i * 2147483648;
}
