use Rattle.std.proofs.Common.{[]}
use Rattle.turbo_dec.specs.Decoder.{values_of}
use Rattle.turbo_dec.specs.Costs.{HasRows, IsForwardRow}
use Rattle.turbo_dec.proofs.constituent.forward.Given as goal

abbrev pub invariant-loop-k : goal.invariant-loop-k
invariant-loop-k l = IsForwardRow (values_of l.streams.systematic.now l.streams.parity.now [] l.streams.prior.now) l.k l.row ×
    HasRows (values_of l.streams.systematic.now l.streams.parity.now [] l.streams.prior.now) l.rows l.k
