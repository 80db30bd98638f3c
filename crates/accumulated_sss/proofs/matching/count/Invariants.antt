use Rattle.std.proofs.Common.{◌≡◌, ◌≤◌}
use Rattle.accumulated_sss.specs.Signs.{matches}
use Rattle.accumulated_sss.specs.Steps.{number_at}
use Rattle.accumulated_sss.proofs.matching.count.Given as goal

abbrev pub invariant-loop-n : goal.invariant-loop-n
invariant-loop-n l = record {
  so_far : l.count ≡ matches l.n (number_at l.signs) (number_at l.sequence);
  small : l.count ≤ l.n;
}
