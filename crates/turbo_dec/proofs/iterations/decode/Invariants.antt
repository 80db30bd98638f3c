use Rattle.turbo_dec.proofs.Iterating.{IsAfter}
use Rattle.turbo_dec.proofs.iterations.decode.Given as goal

abbrev pub invariant-loop : goal.invariant-loop
invariant-loop l = IsAfter l.row l.values.d l.prior l.counter
