use Rattle.std.proofs.Common.{ap, arith, false, ◌∙◌}
use Rattle.std.proofs.lemmas.List.{length-set}
use Rattle.turbo_code.specs.Table.{interleaver}
use Rattle.turbo_code.specs.Encoder.{bit_at}
use Rattle.turbo_code.proofs.TableFacts.{is_small}
use Rattle.finite.proofs.Lists.{set_more}
use Rattle.turbo_code.proofs.Encoding.{interleaved_is}
use Rattle.turbo_code.proofs.encoder.in_order.Goals as goal

pub bounds-bits-i : goal.bounds-bits-i
bounds-bits-i c =
    let small = is_small c.args.row.now c.requires.row in
    let high = small.high in
    let count = c.requires.count in
    omega (arith, high, count, c.loop-i-test.true)

pub loop-i-preserved : goal.loop-i-preserved
loop-i-preserved c =
    let small = is_small c.args.row.now c.requires.row in
    let high = small.high in
    let count = c.requires.count in
    let size = c.loop-i.invariant.size in
    record {
      size = length-set c.loop-i.bits c.loop-i.i _ ∙ size;
      at = set_more false c.loop-i.i (λ j. bit_at c.args.word.now (interleaver c.args.row.now j)) c.loop-i.bits _ (omega (arith, high, count, size, c.loop-i-test.true)) (ap (bit_at c.args.word.now) c.interleaver.ensures.bit) c.loop-i.invariant.at;
    }

pub returns-clause-word : goal.returns-clause-word
returns-clause-word c =
    interleaved_is c.args.row.now c.args.word.now c.loop-i.i c.loop-i.bits c.requires.count (is_small c.args.row.now c.requires.row).high c.loop-i-test.false c.loop-i.invariant.size c.loop-i.invariant.at

pub returns-clause-whole : goal.returns-clause-whole
returns-clause-whole c = c.loop-i.invariant.size
