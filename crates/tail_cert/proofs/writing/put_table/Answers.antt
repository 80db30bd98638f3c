use Rattle.std.proofs.Common.{[], arith}
use Rattle.tail_cert.specs.Form.{table_bytes}
use Rattle.tail_cert.proofs.Pieces.{written_none, written_more, written_all}
use Rattle.tail_cert.proofs.writing.put_table.Goals as goal

pub loop-i-init : goal.loop-i-init
loop-i-init c = written_none _ _ _ _ _

pub loop-i-preserved : goal.loop-i-preserved
loop-i-preserved c = written_more _ _ _ _ _ _ _ _ ([]) c.loop-i.invariant (omega (arith, c.told-table)) c.put_row.ensures.count (omega (arith, c.requires)) c.put_row.ensures.bytes

pub returns-clause-bytes : goal.returns-clause-bytes
unfolding table_bytes
returns-clause-bytes c = (written_all _ _ 40 _ _ _ _ _ c.loop-i.invariant c.told-table (omega arith) (omega arith)).0

pub returns-clause-count : goal.returns-clause-count
unfolding table_bytes
returns-clause-count c = (written_all _ _ 40 _ _ _ _ _ c.loop-i.invariant c.told-table (omega arith) (omega arith)).1
