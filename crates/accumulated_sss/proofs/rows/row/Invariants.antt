use Rattle.std.proofs.Common.{◌+◌, ◌*◌}
use Rattle.accumulated_sss.specs.Votes.{product, vote}
use Rattle.accumulated_sss.specs.Signs.{primary_at}
use Rattle.accumulated_sss.proofs.SoFar.{AreSums}
use Rattle.accumulated_sss.proofs.rows.row.Given as goal

abbrev pub invariant-loop-j : goal.invariant-loop-j
invariant-loop-j l = record {
  votes : AreSums l.j (λ j. vote l.recording l.fn.n2 (primary_at l.t (2 * j + l.parity))) l.vote_sums;
  products : AreSums l.j (λ j. product l.recording l.fn.n2 (primary_at l.t (2 * j + l.parity))) l.product_sums;
}
