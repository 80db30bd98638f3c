use Rattle.std.proofs.Common.{arith}
use Rattle.tail_cert.specs.Form.{table_bytes}
use Rattle.tail_cert.proofs.Elements.{read_none, read_more, read_all}
use Rattle.tail_cert.proofs.reading.get_table.Goals as goal

pub loop-i-init : goal.loop-i-init
loop-i-init c = read_none _ _ _ _ _ _ _ c.told-table

pub loop-i-preserved : goal.loop-i-preserved
loop-i-preserved c = read_more _ _ _ _ _ _ _ _ _ c.loop-i.invariant (omega arith) c.get_row.ensures.bytes c.get_row.ensures.row

pub returns-clause-bytes : goal.returns-clause-bytes
unfolding table_bytes
returns-clause-bytes c = (read_all _ _ _ _ _ _ _ _ c.loop-i.invariant (omega arith) (omega arith)).0

pub returns-clause-table : goal.returns-clause-table
returns-clause-table c = (read_all _ _ _ _ _ _ _ _ c.loop-i.invariant (omega arith) (omega arith)).1
