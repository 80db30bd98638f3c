use Rattle.std.proofs.Common.{◌^◌, arith}
use Rattle.std.proofs.lemmas.List.Elements.{All-set, All-replicate}
use Rattle.cs_num.specs.Complex.{IsWithin, nothing}
use Rattle.list_tests.proofs.ports.symbol.Goals as goal

pub loop-k-init : goal.loop-k-init
loop-k-init c = All-replicate (IsWithin (2 ^ 25)) 72 nothing (record { re = omega arith; im = omega arith })

pub loop-k-preserved : goal.loop-k-preserved
loop-k-preserved c = All-set (IsWithin (2 ^ 25)) c.loop-k.values c.loop-k.k c.seen_at.result c.seen_at.ensures c.loop-k.invariant
