use Rattle.std.proofs.Common.{◌+◌}
use Rattle.cs_num.specs.Complex.{sample_at}
use Rattle.pss_search.proofs.Filling.{Filled}
use Rattle.pss_search.proofs.products.Stretch.new.Given as goal

abbrev pub invariant-loop-n : goal.invariant-loop-n
invariant-loop-n l = Filled (λ n. sample_at l.samples (l.t + n)) l.n l.re l.im
