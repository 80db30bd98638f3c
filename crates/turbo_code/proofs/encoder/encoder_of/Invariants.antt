use Rattle.turbo_code.proofs.Encoding.{AreParities}
use Rattle.turbo_code.proofs.encoder.encoder_of.Given as goal

abbrev pub invariant-loop-k : goal.invariant-loop-k
invariant-loop-k l = AreParities l.word l.k l.parities l.register
