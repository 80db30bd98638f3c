use Rattle.std.proofs.Common.{◌≡◌}
use Rattle.frequency_offset.specs.Candidates.{candidates_below}
use Rattle.frequency_offset.proofs.candidate.candidates_of.Given as goal

abbrev pub invariant-loop-k : goal.invariant-loop-k
invariant-loop-k l = l.candidates.items ≡ candidates_below l.centred l.k
