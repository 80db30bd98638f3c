use Rattle.std.proofs.Common.{◌∙◌, arith, ap, sym, ap₂, max}
use Rattle.cs_num.specs.Complex.{largest_part}
use Rattle.cancel.specs.Steps.{left_of}
use Rattle.cancel.proofs.Best.{greatest_more}
use Rattle.cancel.proofs.leaving.greatest_to.Goals as goal

pub loop-i-preserved : goal.loop-i-preserved
loop-i-preserved c =
    let low = c.loop-i.invariant.small in
    let here = c.greatest_part.ensures.small in
    let e = c.greater_part-greatest.ensures in
    record {
      value = c.greater_part-greatest.ensures
          ∙ ap₂ max c.loop-i.invariant.value (c.greatest_part.ensures.value ∙ ap largest_part c.left.ensures.value)
          ∙ sym (greatest_more c.loop-i.i (left_of c.args.samples.now c.args.sent.now c.args.gain));
      small = omega (arith, low, here, e);
    }
