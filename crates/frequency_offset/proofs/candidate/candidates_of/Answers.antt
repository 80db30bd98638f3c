use Rattle.std.proofs.Common.{◌≡◌, ◌∙◌, arith, ap, sym, subst, List}
use Rattle.std.specs.Prelude.{All}
use Rattle.frequency_offset.specs.declared.candidate.Candidate.{Candidate}
use Rattle.frequency_offset.specs.Candidates.{candidates_below}
use Rattle.frequency_offset.specs.Steps.{IsSmallCandidate}
use Rattle.frequency_offset.proofs.OneCandidate.{no_candidates}
use Rattle.frequency_offset.proofs.Ranges.{candidates_are_small}
use Rattle.frequency_offset.proofs.candidate.candidates_of.Goals as goal

pub loop-k-init : goal.loop-k-init
loop-k-init c = c.new-candidates.ensures.items ∙ sym (no_candidates c.args.centred.now)

pub returns-clause-value : goal.returns-clause-value
returns-clause-value c =
    let last : c.loop-k.k ≡ 33 = omega arith in
    c.loop-k.invariant ∙ ap (candidates_below c.args.centred.now) last

pub returns-clause-small : goal.returns-clause-small
returns-clause-small c =
    let last : c.loop-k.k ≡ 33 = omega arith in
    let all = c.loop-k.invariant ∙ ap (candidates_below c.args.centred.now) last in
    subst (λ (xs : List Candidate). All IsSmallCandidate xs) (sym all) (candidates_are_small c.args.centred.now)
