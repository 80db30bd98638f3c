use Rattle.std.proofs.Common.{◌∙◌, ap, sym, subst, arith, List, filter}
use Rattle.std.specs.Prelude.{All}
use Rattle.std.proofs.lemmas.List.{take_all}
use Rattle.std.proofs.lemmas.List.Elements.{All-filter}
use Rattle.frequency_offset.specs.declared.candidate.Candidate.{Candidate}
use Rattle.frequency_offset.specs.Candidates.{is_far}
use Rattle.frequency_offset.specs.Steps.{IsSmallCandidate}
use Rattle.frequency_offset.proofs.taking.far_from.Goals as goal

pub returns-clause-small : goal.returns-clause-small
returns-clause-small c =
    let all = c.loop-candidate.invariant ∙ ap (filter (is_far c.args.best.now)) (take_all c.loop-candidate.candidate-index c.args.candidates.now (omega arith)) in
    subst (λ (xs : List Candidate). All IsSmallCandidate xs) (sym all) (All-filter (is_far c.args.best.now) IsSmallCandidate c.args.candidates.now c.requires.small)
