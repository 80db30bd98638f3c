use Rattle.std.proofs.Common.{◌≡◌, ◌≤◌}
use Rattle.accumulated_sss.specs.Signs.{matches}
use Rattle.added_master.specs.Master.{sign_of_sum, sign_of_bit}
use Rattle.added_master.proofs.signs.count_matches.Given as goal

abbrev pub invariant-loop-i : goal.invariant-loop-i
invariant-loop-i l = record {
  so_far : l.count ≡ matches l.i (sign_of_sum l.sums) (sign_of_bit l.coded);
  small : l.count ≤ l.i;
}
