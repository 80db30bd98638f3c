use Rattle.std.proofs.Common.{◌≡◌, filter, take, nat_lt}
use Rattle.accumulated_pss.specs.Maxima.{rank}
use Rattle.accumulated_pss.proofs.choose.candidates.Given as goal

abbrev pub invariant-loop-k : goal.invariant-loop-k
invariant-loop-k l = l.list.items ≡ filter (λ t. nat_lt (rank l.row t) 64) (take l.k l.maxima.items)
