use Rattle.std.proofs.Common.{◌∙◌, ap, subst, List}
use Rattle.cs_num.specs.declared.Sample.{Sample}
use Rattle.frequency_offset.specs.declared.candidate.Candidate.{Candidate}
use Rattle.frequency_offset.specs.Candidates.{taken_of}
use Rattle.frequency_offset.specs.Estimation.{IsEstimatedBy}
use Rattle.frequency_offset.proofs.estimation.tell_with_candidates.Goals as goal

pub returns-clause-estimate : goal.returns-clause-estimate
returns-clause-estimate c =
    let taken = c.in_ok-candidates.ensures ∙ ap taken_of c.new-centred.ensures in
    subst (λ (xs : List Candidate). IsEstimatedBy c.args.recording.now xs c.in_ok-estimate.estimate) (c.deref.ensures.value ∙ taken)
    (subst (λ (r : List Sample). IsEstimatedBy r c.deref.result.now c.in_ok-estimate.estimate) c.new-centred.ensures c.in_ok-estimate.ensures)

pub returns-clause-candidates : goal.returns-clause-candidates
returns-clause-candidates c = c.in_ok-candidates.ensures ∙ ap taken_of c.new-centred.ensures
