use Rattle.conv_code.proofs.Encoding.{coded_word_is}
use Rattle.conv_code.proofs.encoder.encode.Goals as goal

pub returns : goal.returns
returns g c = coded_word_is g.row.N c.args.word.now c.slice-bits.result.now c.loop-k.coded c.loop-k.k c.slice-bits.ensures.bits c.slice-bits.ensures.count c.loop-k-test.false c.loop-k.invariant.size c.loop-k.invariant.at
