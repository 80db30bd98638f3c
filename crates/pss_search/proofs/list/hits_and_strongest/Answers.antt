use Rattle.std.proofs.Common.{◌≡◌, ◌∙◌, ◌+◌, ℕ, List, arith, sym, ap, subst}
use Rattle.std.specs.List.{All}
use Rattle.std.proofs.lemmas.List.Elements.{All-nil}
use Rattle.cs_num.specs.declared.Sample.{Sample}
use Rattle.pss_search.specs.Hits.{IsInSpan, IsSmallHit, hits_before}
use Rattle.pss_search.specs.Steps.{IsMetricOf, IsStrongestSoFar}
use Rattle.pss_search.proofs.Listed.{listed_in_span}
use Rattle.pss_search.proofs.Room.{hits_before_none}
use Rattle.pss_search.proofs.list.hits_and_strongest.Goals as goal

pub loop-offset-init : goal.loop-offset-init
loop-offset-init c = record {
  list = c.clear.ensures ∙ sym (hits_before_none c.args.recording.now);
  small = rw c.clear.ensures (All-nil IsSmallHit);
  recording = c.new-recent.ensures.recording;
  place = c.new-recent.ensures.place;
  best = subst (λ (r : List Sample). IsStrongestSoFar r c.args.n2 146 c.strongest_at_start-best.result) c.new-recent.ensures.recording c.strongest_at_start-best.ensures;
}

pub loop-offset-preserved : goal.loop-offset-preserved
loop-offset-preserved c =
    let recording = c.advance.ensures.recording ∙ c.loop-offset.invariant.recording in
    let here : c.measured_at.result.t ≡ c.loop-offset.offset + 146 = let at = c.measured_at.ensures.place in omega (arith, at) in
    let metric = subst (λ (r : List Sample). IsMetricOf r c.args.n2 c.measured_at.result.t c.measured_at.result.metric) recording
    (subst (λ (t : ℕ). IsMetricOf c.advance.new.self.recording c.args.n2 t c.measured_at.result.metric) (sym c.measured_at.ensures.place) c.measured_at.ensures.metric) in
    let more = c.stronger-best.ensures c.args.recording.now c.args.n2
    (subst (λ (t : ℕ). IsStrongestSoFar c.args.recording.now c.args.n2 t c.loop-offset.best) (sym here) c.loop-offset.invariant.best) metric in
    let next : c.measured_at.result.t + 1 ≡ c.loop-offset.offset + 1 + 146 = omega (arith, here) in
    record {
      list = c.add_hits.ensures.list ∙ ap (λ (r : List Sample). hits_before r (c.loop-offset.offset + 1)) recording;
      small = c.add_hits.ensures.small;
      recording = recording;
      place = let step = c.advance.ensures.place in let before = c.loop-offset.invariant.place in omega (arith, step, before);
      best = subst (λ (t : ℕ). IsStrongestSoFar c.args.recording.now c.args.n2 t c.stronger-best.result) next more;
    }

pub returns : goal.returns
returns c =
    let last : c.loop-offset.offset ≡ 19200 = omega arith in
    let whole = c.loop-offset.invariant.list ∙ ap (hits_before c.args.recording.now) last in
    let best = subst (λ (i : ℕ). IsStrongestSoFar c.args.recording.now c.args.n2 (i + 146) c.loop-offset.best) last c.loop-offset.invariant.best in
    record {
      list = whole;
      span = subst (All IsInSpan) (sym whole) (listed_in_span c.args.recording.now);
      small = c.loop-offset.invariant.small;
      strongest = best.strongest;
      metric = best.metric;
    }
