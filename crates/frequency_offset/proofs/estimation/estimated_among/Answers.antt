use Rattle.std.proofs.Common.{◌+◌, ◌<◌, ℕ, arith, sym, subst, List, length, get_or}
use Rattle.std.specs.Prelude.{HoldsAt}
use Rattle.std.proofs.lemmas.List.{get_or_default}
use Rattle.cs_num.specs.declared.Sample.{Sample}
use Rattle.frequency_offset.specs.declared.candidate.Candidate.{Candidate}
use Rattle.frequency_offset.specs.declared.estimation.OffsetEstimate.{OffsetEstimate}
use Rattle.frequency_offset.specs.Estimation.{Estimates}
use Rattle.frequency_offset.proofs.EstimatedSoFar.{EstimatedSoFar, none_estimated, one_silent, one_heard, none_heard}
use Rattle.frequency_offset.proofs.estimation.estimated_among.Goals as goal

-- the estimate from a candidate in the list
estimates_at : (recording : List Sample) (taken : List Candidate) (n : ℕ) (here : Candidate) (estimate : OffsetEstimate) → n < length taken → Estimates recording (get_or taken n here) estimate →
    HoldsAt (λ candidate. Estimates recording candidate estimate) taken n
estimates_at recording taken n here estimate inside is d = subst (λ (x : Candidate). Estimates recording x estimate) (get_or_default taken n here d inside) is

pub loop-candidate-init : goal.loop-candidate-init
loop-candidate-init c = none_estimated c.args.centred.now c.args.taken.now

pub returns-then-estimate-gt0 : goal.returns-then-estimate-gt0
returns-then-estimate-gt0 c =
    let n = c.loop-candidate.candidate-index in
    let inside : n < length c.args.taken.now = omega arith in
    one_heard c.args.centred.now c.args.taken.now n c.loop-candidate.first c.in_ok-estimate.estimate c.loop-candidate.invariant inside
    (estimates_at c.args.centred.now c.args.taken.now n _ c.in_ok-estimate.estimate inside c.in_ok-estimate.ensures) (omega arith)

pub loop-candidate-preserved : goal.loop-candidate-preserved
loop-candidate-preserved c =
    let n = c.loop-candidate.candidate-index in
    let inside : n < length c.args.taken.now = omega arith in
    subst (EstimatedSoFar c.args.centred.now c.args.taken.now (n + 1)) (sym c.or-first.ensures)
    (one_silent c.args.centred.now c.args.taken.now n c.loop-candidate.first c.in_ok-estimate.estimate c.loop-candidate.invariant
    (estimates_at c.args.centred.now c.args.taken.now n _ c.in_ok-estimate.estimate inside c.in_ok-estimate.ensures) (omega arith))

pub returns : goal.returns
returns c = none_heard c.args.centred.now c.args.taken.now c.loop-candidate.candidate-index c.loop-candidate.first c.loop-candidate.invariant (omega arith)
