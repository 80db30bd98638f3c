use Rattle.std.proofs.Common.{◌≡◌, ℕ, ◌<◌, false, get_or, length}
use Rattle.turbo_code.specs.Table.{interleaver}
use Rattle.erasure.proofs.resolving.second_marks.Given as goal

abbrev pub invariant-loop-i : goal.invariant-loop-i
invariant-loop-i l = record {
  size : length l.marks ≡ 1024;
  at : (j : ℕ) → j < l.i → get_or l.marks (interleaver l.row j) false ≡ get_or l.found j false;
}
