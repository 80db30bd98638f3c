use Rattle.std.proofs.Common.{[], arith}
use Rattle.tail_cert.proofs.Pieces.{written_none, written_more, written_all}
use Rattle.tail_cert.proofs.writing.put_values.Goals as goal

pub loop-k-init : goal.loop-k-init
loop-k-init c = written_none _ _ _ _ _

pub loop-k-preserved : goal.loop-k-preserved
loop-k-preserved c = written_more _ _ _ _ _ _ _ _ ([]) c.loop-k.invariant (omega (arith, c.told-values)) c.put_place.ensures.count (omega (arith, c.requires.room)) c.put_place.ensures.bytes

pub returns-clause-bytes : goal.returns-clause-bytes
returns-clause-bytes c = (written_all _ _ 40 _ _ _ _ _ c.loop-k.invariant c.told-values (omega arith) (omega arith)).0

pub returns-clause-count : goal.returns-clause-count
returns-clause-count c = (written_all _ _ 40 _ _ _ _ _ c.loop-k.invariant c.told-values (omega arith) (omega arith)).1
