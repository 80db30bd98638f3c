use Rattle.std.proofs.Common.{arith, pos, length, drop, replicate}
use Rattle.std.proofs.lemmas.List.Elements.{All-append, All-drop, All-replicate}
use Rattle.turbo_dec.specs.Decoder.{IsSmall, values_of}
use Rattle.turbo_dec.proofs.Small.{small_extrinsics}
use Rattle.turbo_dec.proofs.iterations.extrinsics_of.Goals as goal

pub returns-clause-small : goal.returns-clause-small
returns-clause-small c =
    All-append IsSmall c.half.new.out (drop (length c.args.systematic.now) (replicate 1024 (pos 0)))
    (rw c.half.ensures (small_extrinsics (values_of c.args.systematic.now c.args.parity.now c.args.tail.now c.args.prior.now)))
    (All-drop IsSmall (length c.args.systematic.now) (replicate 1024 (pos 0)) (All-replicate IsSmall 1024 (pos 0) (omega arith)))
