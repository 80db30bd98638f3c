use Rattle.std.proofs.Common.{◌≡◌, ◌-◌}
use Rattle.sss_detect.specs.Identity.{first_greatest}
use Rattle.frequency_offset.proofs.BestFit.{fit_at}
use Rattle.frequency_offset.proofs.fine.best_fit.Given as goal

abbrev pub invariant-loop-k : goal.invariant-loop-k
invariant-loop-k l = l.best ≡ first_greatest (fit_at l.sum) (l.k - 1)
