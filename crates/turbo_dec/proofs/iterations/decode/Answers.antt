use Rattle.std.proofs.Common.{arith, ◌∙◌, sym, ap, Some}
use Rattle.turbo_dec.proofs.Iterating.{after_none, after_more, block_found, block_none}
use Rattle.turbo_dec.proofs.iterations.decode.Goals as goal

pub loop-init : goal.loop-init
loop-init c = after_none c.args.row c.args.values.now.d c.requires.row

pub returns-then-has_check_24 : goal.returns-then-has_check_24
returns-then-has_check_24 c =
    ap Some c.payload_of.ensures
    ∙ block_found c.args.row c.args.values.now.d c.loop.prior c.bits_of-bits.result.now c.loop.counter (omega (arith, c.loop-test.true)) c.loop.invariant
    (c.bits_of-bits.ensures.bits ∙ c.iterate-word.ensures.word) (sym c.has_check_24.ensures ∙ c.if-has_check_24.true)

pub loop-preserved : goal.loop-preserved
loop-preserved c =
    after_more c.args.row c.args.values.now.d c.loop.prior c.iterate-word.new.prior c.bits_of-bits.result.now c.loop.counter c.loop.invariant
    c.iterate-word.ensures.small c.iterate-word.ensures.prior (c.bits_of-bits.ensures.bits ∙ c.iterate-word.ensures.word) (sym c.has_check_24.ensures ∙ c.if-has_check_24.false)

pub returns : goal.returns
returns c = block_none c.args.row c.args.values.now.d c.loop.prior c.loop.counter (omega (arith, c.loop-test.false)) c.loop.invariant
