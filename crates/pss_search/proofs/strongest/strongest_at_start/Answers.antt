use Rattle.std.proofs.Common.{◌≡◌, ◌+◌, ℕ, arith, sym, subst}
use Rattle.pss_search.specs.Steps.{IsMetricOf, IsStrongestSoFar}
use Rattle.pss_search.proofs.Stronger.{first_is_strongest}
use Rattle.pss_search.proofs.strongest.strongest_at_start.Goals as goal

pub loop-t-init : goal.loop-t-init
loop-t-init c = first_is_strongest c.args.recent.now.recording c.args.n2 c.measured_at-best.result c.measured_at-best.ensures.place c.measured_at-best.ensures.metric

pub loop-t-preserved : goal.loop-t-preserved
loop-t-preserved c =
    let recording = c.args.recent.now.recording in
    let n2 = c.args.n2 in
    let at = c.measured_at.ensures.place in
    subst (λ (t : ℕ). IsStrongestSoFar recording n2 (t + 1) c.stronger-best.result) at
    (c.stronger-best.ensures recording n2
    (subst (λ (t : ℕ). IsStrongestSoFar recording n2 t c.loop-t.best) (sym at) c.loop-t.invariant)
    (subst (λ (t : ℕ). IsMetricOf recording n2 t c.measured_at.result.metric) (sym at) c.measured_at.ensures.metric))

pub returns : goal.returns
returns c =
    let last : c.loop-t.t ≡ 146 = omega arith in
    subst (λ (t : ℕ). IsStrongestSoFar c.args.recent.now.recording c.args.n2 t c.loop-t.best) last c.loop-t.invariant
