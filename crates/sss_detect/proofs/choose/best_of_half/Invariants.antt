use Rattle.std.proofs.Common.{◌-◌}
use Rattle.sss_detect.specs.Steps.{score_by}
use Rattle.sss_detect.proofs.Choices.{IsBestSoFar}
use Rattle.sss_detect.proofs.choose.best_of_half.Given as goal

abbrev pub invariant-loop-n1 : goal.invariant-loop-n1
invariant-loop-n1 l = IsBestSoFar (λ n1. score_by l.sums.agreements.now l.sums.n2 n1 l.half) (l.n1 - 1) l.best
