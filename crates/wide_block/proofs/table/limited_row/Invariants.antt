use Rattle.std.proofs.Common.{◌≡◌, ℕ, ◌<◌, ◌≤◌, All, get_or, length, nat_abs, pos}
use Rattle.cs_num.specs.Rounding.{clamped}
use Rattle.wide_block.proofs.table.limited_row.Given as goal

abbrev pub invariant-loop-i : goal.invariant-loop-i
invariant-loop-i l = record {
  size : length l.sums ≡ 1028;
  at : (j : ℕ) → j < l.i → get_or l.sums j (pos 0) ≡ clamped (get_or l.row j (pos 0)) 4096;
  small : All (λ z. nat_abs z ≤ 4096) l.sums;
}
