use Rattle.std.proofs.Common.{arith, pos}
use Rattle.std.proofs.lemmas.List.{length-replicate}
use Rattle.std.proofs.lemmas.List.Elements.{All-replicate}
use Rattle.turbo_dec.specs.Decoder.{IsSmall}
use Rattle.turbo_dec.proofs.Iterating.{handed_is}
use Rattle.turbo_dec.proofs.iterations.hand_on.Goals as goal

pub loop-k-init : goal.loop-k-init
loop-k-init c = record {
  size = length-replicate 1024 (pos 0);
  at = λ j below. absurd (omega (arith, below));
  small = All-replicate IsSmall 1024 (pos 0) (omega arith);
}

pub returns-clause-values : goal.returns-clause-values
returns-clause-values c = handed_is c.args.found.now c.loop-k.handed c.loop-k.k c.told-found c.loop-k.invariant.size (omega (arith, c.loop-k-test.false)) c.loop-k.invariant.at
