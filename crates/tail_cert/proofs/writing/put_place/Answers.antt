use Rattle.std.proofs.Common.{arith}
use Rattle.std.specs.Prelude.{pos}
use Rattle.tail_cert.specs.Form.{place_bytes}
use Rattle.tail_cert.proofs.Pieces.{written_none, written_more, written_all}
use Rattle.tail_cert.proofs.writing.put_place.Goals as goal

pub loop-t-init : goal.loop-t-init
loop-t-init c = written_none _ _ _ _ _

pub loop-t-preserved : goal.loop-t-preserved
loop-t-preserved c = written_more _ _ _ _ _ _ _ _ (pos 0) c.loop-t.invariant (omega (arith, c.told-values)) c.put_value.ensures.count (omega (arith, c.requires.room)) c.put_value.ensures.bytes

pub returns-clause-bytes : goal.returns-clause-bytes
unfolding place_bytes
returns-clause-bytes c = (written_all _ _ 3 _ _ _ _ _ c.loop-t.invariant c.told-values (omega arith) (omega arith)).0

pub returns-clause-count : goal.returns-clause-count
unfolding place_bytes
returns-clause-count c = (written_all _ _ 3 _ _ _ _ _ c.loop-t.invariant c.told-values (omega arith) (omega arith)).1
