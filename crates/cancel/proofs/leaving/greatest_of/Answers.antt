use Rattle.std.proofs.Common.{◌*◌, ◌≡◌, ◌∙◌, arith, ap, sym, length, min}
use Rattle.cancel.specs.Gain.{greatest_below}
use Rattle.cancel.specs.Steps.{left_of}
use Rattle.cancel.proofs.Best.{greatest_none, greatest-grows}
use Rattle.cancel.proofs.leaving.greatest_of.Goals as goal

pub loop-k-init : goal.loop-k-init
loop-k-init c =
    let none : 0 ≡ min (256 * 0) (length c.args.samples.now) = omega arith in
    record {
      value = sym (greatest_none (left_of c.args.samples.now c.args.sent.now c.args.gain)) ∙ ap (λ n. greatest_below n (left_of c.args.samples.now c.args.sent.now c.args.gain)) none;
      small = omega arith;
    }

pub returns-then-greatest-end-clause-past : goal.returns-then-greatest-end-clause-past
returns-then-greatest-end-clause-past c = λ past.
    let left = left_of c.args.samples.now c.args.sent.now c.args.gain in
    let count = length c.args.samples.now in
    let front = min (256 * c.loop-k.k) count in
    let so_far = c.loop-k.invariant.value in
    let grows = greatest-grows front count left (omega arith) in
    omega (arith, past, so_far, grows)
