use Rattle.std.proofs.Common.{◌≡◌, ℕ, ◌<◌, ◌≤◌, get_or, length, pos}
use Rattle.std.specs.Prelude.{All, nat_abs}
use Rattle.turbo_code.specs.Table.{interleaver}
use Rattle.turbo_dec.specs.Decoder.{at}
use Rattle.turbo_dec.proofs.iterations.in_order_of.Given as goal

abbrev pub invariant-loop-i : goal.invariant-loop-i
invariant-loop-i l = record {
  size : length l.ordered ≡ 1024;
  at : (j : ℕ) → j < l.i → get_or l.ordered j (pos 0) ≡ at l.values (interleaver l.row j);
  small : All (λ z. nat_abs z ≤ 4096) l.ordered;
}
