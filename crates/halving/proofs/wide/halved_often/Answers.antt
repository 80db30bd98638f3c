use Rattle.std.proofs.Common.{arith, sym, ap, ◌∙◌}
use Rattle.halving.specs.Halved.{halved}
use Rattle.halving.proofs.Lengths.{halved_none, halved_more, halved-length}
use Rattle.halving.proofs.wide.halved_often.Goals as goal

pub returns-then-rate-eq0 : goal.returns-then-rate-eq0
returns-then-rate-eq0 c =
    let whole = halved_none c.args.samples.now in
    rw (c.if-rate-eq0.true, whole) c.copied.ensures

pub loop-init : goal.loop-init
loop-init c =
    let long = halved-length c.args.samples.now in
    let is = c.in_ok-narrow.ensures in
    record {
      narrow = is ∙ sym (halved_more 0 c.args.samples.now ∙ ap halved (halved_none c.args.samples.now));
      small = rw is (omega (arith, long));
    }

pub loop-preserved : goal.loop-preserved
loop-preserved c =
    let long = halved-length c.loop.narrow.items in
    let is = c.in_ok-narrow-2.ensures ∙ ap halved c.deref.ensures.value in
    record {
      narrow = is ∙ ap halved c.loop.invariant.narrow ∙ sym (halved_more c.loop.counter c.args.samples.now);
      small = rw is (omega (arith, long, c.loop.invariant.small));
    }
