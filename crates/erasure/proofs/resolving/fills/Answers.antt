use Rattle.std.proofs.Common.{◌≡◌, ◌∙◌, sym, ap, ap₂, arith}
use Rattle.std.specs.Prelude.{◌&&◌}
use Rattle.finite.specs.Tests.{every_below}
use Rattle.erasure.specs.Known.{resolvable, sent_of}
use Rattle.erasure.specs.Sets.{above_zero}
use Rattle.erasure.proofs.Agree.{resolvable_same, every_below_none, every_below_more}
use Rattle.erasure.proofs.resolving.fills.Goals as goal

pub loop-rv-init : goal.loop-rv-init
loop-rv-init c = sym (every_below_none (λ rv. resolvable c.args.row (sent_of c.args.row.k rv c.args.sent) c.args.bits.now))

pub loop-rv-preserved : goal.loop-rv-preserved
loop-rv-preserved c =
    ap₂ ◌&&◌ c.loop-rv.invariant
    (c.resolves-all.ensures ∙ resolvable_same c.args.row c.requires.row (above_zero c.counts_of.result) (sent_of c.args.row.k c.loop-rv.rv c.args.sent) c.args.bits.now c.counts_of.ensures)
    ∙ sym (every_below_more c.loop-rv.rv (λ rv. resolvable c.args.row (sent_of c.args.row.k rv c.args.sent) c.args.bits.now))

pub returns : goal.returns
returns c =
    let e : c.loop-rv.rv ≡ 4 = omega (arith, c.loop-rv-test.false, c.loop-rv.auto.rv-end) in
    c.loop-rv.invariant ∙ ap (λ n. every_below n (λ rv. resolvable c.args.row (sent_of c.args.row.k rv c.args.sent) c.args.bits.now)) e
