use Rattle.std.proofs.Common.{◌≡◌, ℕ, ◌<◌, ◌≤◌, get_or, length, pos}
use Rattle.std.specs.Prelude.{All, nat_abs}
use Rattle.turbo_dec.specs.Decoder.{at}
use Rattle.turbo_dec.specs.Block.{handed_on}
use Rattle.turbo_dec.proofs.iterations.hand_on.Given as goal

abbrev pub invariant-loop-k : goal.invariant-loop-k
invariant-loop-k l = record {
  size : length l.handed ≡ 1024;
  at : (j : ℕ) → j < l.k → get_or l.handed j (pos 0) ≡ handed_on (at l.found j);
  small : All (λ z. nat_abs z ≤ 4096) l.handed;
}
