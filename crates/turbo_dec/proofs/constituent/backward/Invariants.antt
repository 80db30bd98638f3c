use Rattle.turbo_dec.specs.Decoder.{values_of}
use Rattle.turbo_dec.proofs.Back.{IsBackTo}
use Rattle.turbo_dec.proofs.constituent.backward.Given as goal

abbrev pub invariant-loop-k : goal.invariant-loop-k
invariant-loop-k l = IsBackTo (values_of l.streams.systematic.now l.streams.parity.now l.tail l.streams.prior.now) l.row l.out l.k
