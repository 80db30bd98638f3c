use Rattle.std.proofs.Common.{◌≡◌, ℕ, ◌<◌, ◌+ℤ◌, get_or, length, pos}
use Rattle.wide_block.proofs.table.row_sums.Given as goal

abbrev pub invariant-loop-i : goal.invariant-loop-i
invariant-loop-i l = record {
  size : length l.sums ≡ 1028;
  at : (j : ℕ) → j < l.i → get_or l.sums j (pos 0) ≡ get_or l.a j (pos 0) +ℤ get_or l.b j (pos 0);
}
