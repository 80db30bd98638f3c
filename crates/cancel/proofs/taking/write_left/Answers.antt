use Rattle.std.proofs.Common.{◌≡◌, arith, length}
use Rattle.finite.proofs.Lists.{values_below_is}
use Rattle.cs_num.specs.Complex.{silence}
use Rattle.cs_num.specs.Rounding.{nearest_sample}
use Rattle.cancel.specs.Steps.{left_of}
use Rattle.cancel.proofs.taking.write_left.Goals as goal

pub returns : goal.returns
returns c =
    let done : c.loop-i.i ≡ length c.args.samples.now = omega arith in
    values_below_is silence (length c.args.samples.now) (λ i. nearest_sample (left_of c.args.samples.now c.args.sent.now c.args.gain i)) c.loop-i.residue
    c.loop-i.invariant.room (λ k l. c.loop-i.invariant.each k (omega (arith, l, done)))
