use Rattle.std.proofs.Common.{◌≡◌}
use Rattle.sss_detect.specs.Steps.{places_sum}
use Rattle.sss_detect.proofs.score.places_sum.Given as goal

abbrev pub invariant-loop-n : goal.invariant-loop-n
invariant-loop-n l = l.sum ≡ places_sum l.agreements l.fn.n2 l.even l.odd l.first l.n
