use Rattle.cs_num.proofs.SoFar.{SoFar}
use Rattle.pss_search.specs.Correlation.{wave, peak_term}
use Rattle.accumulated_sss.proofs.votes.correlation.Given as goal

abbrev pub invariant-loop-n : goal.invariant-loop-n
invariant-loop-n l = SoFar 16711680 l.n (peak_term (wave l.fn.n2) l.samples l.at) l.sum
