use Rattle.std.proofs.Common.{◌≡◌, ◌+◌, ◌*◌, ◌≤◌, nat_abs}
use Rattle.finite.specs.Sums.{sum_below}
use Rattle.pss_search.specs.Products.{product_at}
use Rattle.pss_search.proofs.products.row_sum.Given as goal

abbrev pub invariant-loop-n : goal.invariant-loop-n
invariant-loop-n l = record {
  so_far : l.sum ≡ sum_below l.n (λ n. product_at l.values l.o l.signal (32 * l.k + n));
  small : nat_abs l.sum ≤ l.n * 8355840;
}
