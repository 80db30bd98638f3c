use Rattle.std.proofs.Common.{◌≡◌, arith, false, get_or, length, sym, ap, ◌∙◌}
use Rattle.std.specs.Prelude.{◌&&◌}
use Rattle.finite.specs.Tests.{every_below}
use Rattle.erasure.proofs.Agree.{every_below_none, every_below_more}
use Rattle.turbo_code.specs.Encoder.{bit_at}
use Rattle.erasure.proofs.resolving.are_all.Goals as goal

pub loop-k-init : goal.loop-k-init
loop-k-init c = sym (every_below_none (bit_at c.args.marks.now))

pub loop-k-preserved : goal.loop-k-preserved
loop-k-preserved c =
    ap (λ a. a && get_or c.args.marks.now c.loop-k.k false) c.loop-k.invariant
    ∙ sym (every_below_more c.loop-k.k (bit_at c.args.marks.now))

pub returns : goal.returns
returns c =
    let e : c.loop-k.k ≡ length c.args.marks.now = omega (arith, c.loop-k-test.false, c.loop-k.auto.k-end) in
    c.loop-k.invariant ∙ ap (λ n. every_below n (bit_at c.args.marks.now)) e
