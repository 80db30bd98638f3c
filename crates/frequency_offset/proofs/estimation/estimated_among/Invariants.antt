use Rattle.frequency_offset.proofs.EstimatedSoFar.{EstimatedSoFar}
use Rattle.frequency_offset.proofs.estimation.estimated_among.Given as goal

abbrev pub invariant-loop-candidate : goal.invariant-loop-candidate
invariant-loop-candidate l = EstimatedSoFar l.centred l.taken l.candidate-index l.first
