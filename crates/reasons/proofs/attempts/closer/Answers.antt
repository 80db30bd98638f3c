use Rattle.std.proofs.Common.{arith}
use Rattle.reasons.proofs.Closest.{next_is_closest, best_is_closest}
use Rattle.reasons.proofs.attempts.closer.Goals as goal

pub returns-then-theirs-ours : goal.returns-then-theirs-ours
returns-then-theirs-ours c values before is = next_is_closest values c.args.best c.args.next before is (omega arith)

pub returns-else-theirs-ours : goal.returns-else-theirs-ours
returns-else-theirs-ours c values before is = best_is_closest values c.args.best c.args.next before is (omega arith)
