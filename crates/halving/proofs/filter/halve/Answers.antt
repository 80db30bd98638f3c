use Rattle.std.proofs.Common.{arith, refl, ◌≡◌, ◌∙◌, sym, ap, ap₂, ◌/◌, ◌++◌, [], ◌∷◌, length}
use Rattle.finite.specs.Lists.{values_below}
use Rattle.finite.proofs.Lists.{values_below_more}
use Rattle.halving.specs.Halved.{halved_at, halved}
use Rattle.halving.proofs.filter.halve.Goals as goal

pub loop-i-preserved : goal.loop-i-preserved
unfolding halved_at
loop-i-preserved c =
    let sample : c.nearest_sample.result ≡ halved_at c.args.samples.now c.loop-i.i =
    rw (c.nearest_sample.ensures, c.round_shift.ensures, c.filtered.ensures.value) refl in
    c.in_ok-push.ensures.items ∙ ap₂ (λ before last. before ++ (last ∷ [])) c.loop-i.invariant sample
    ∙ sym (values_below_more c.loop-i.i (halved_at c.args.samples.now))

pub returns : goal.returns
unfolding halved
returns c =
    let last : c.loop-i.i ≡ length c.args.samples.now / 2 = omega arith in
    c.loop-i.invariant ∙ ap (λ n. values_below n (halved_at c.args.samples.now)) last
