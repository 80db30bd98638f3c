use Rattle.std.proofs.Common.{◌≡◌, fold, take}
use Rattle.frequency_offset.specs.declared.candidate.Candidate.{Candidate}
use Rattle.frequency_offset.specs.Fractions.{greater}
use Rattle.frequency_offset.specs.Steps.{IsSmallCandidate}
use Rattle.frequency_offset.proofs.taking.greatest_by.Given as goal

abbrev pub invariant-loop-candidate : goal.invariant-loop-candidate
invariant-loop-candidate l = record { is : l.best ≡ fold (greater (λ (c : Candidate). c.fraction)) l.first (take l.candidate-index l.rest); small : IsSmallCandidate l.best }
