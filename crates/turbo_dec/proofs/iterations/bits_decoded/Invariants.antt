use Rattle.std.proofs.Common.{◌≡◌, ℕ, ◌<◌, get_or, length, false}
use Rattle.turbo_dec.specs.Block.{decoded_by}
use Rattle.turbo_dec.proofs.iterations.bits_decoded.Given as goal

abbrev pub invariant-loop-k : goal.invariant-loop-k
invariant-loop-k l = record {
  size : length l.word ≡ 1024;
  at : (j : ℕ) → j < l.k → get_or l.word j false ≡ decoded_by l.systematic l.first l.second j;
}
