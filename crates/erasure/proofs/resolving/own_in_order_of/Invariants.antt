use Rattle.std.proofs.Common.{◌≡◌, ℕ, ◌<◌, false, get_or, length}
use Rattle.std.specs.Prelude.{◌||◌}
use Rattle.turbo_code.specs.Table.{interleaver}
use Rattle.erasure.specs.Sets.{above_zero}
use Rattle.erasure.proofs.resolving.own_in_order_of.Given as goal

abbrev pub invariant-loop-i : goal.invariant-loop-i
invariant-loop-i l = record {
  size : length l.marks ≡ 1024;
  at : (j : ℕ) → j < l.i → get_or l.marks j false ≡ (above_zero l.counts 0 (interleaver l.row j) || get_or l.known (interleaver l.row j) false);
}
