use Rattle.conv_code.specs.Code.{bit_back}
use Rattle.conv_code.proofs.Encoding.{IsPartSum}
use Rattle.conv_code.proofs.encoder.coded_bit.Given as goal

abbrev pub invariant-loop-t : goal.invariant-loop-t
invariant-loop-t l = IsPartSum (bit_back l.word l.k) l.taps l.t-index l.sum
