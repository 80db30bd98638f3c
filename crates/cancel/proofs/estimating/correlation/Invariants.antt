use Rattle.std.proofs.Common.{◌+◌}
use Rattle.cs_num.specs.Complex.{sample_at, times, conjugate}
use Rattle.cs_num.proofs.SoFar.{SoFar}
use Rattle.pss_search.specs.Correlation.{wave}
use Rattle.cancel.proofs.estimating.correlation.Given as goal

abbrev pub invariant-loop-n : goal.invariant-loop-n
invariant-loop-n l = SoFar 134217728 l.n (λ k. times (sample_at l.recording (l.first + k)) (conjugate (wave l.n2 k))) l.sum
