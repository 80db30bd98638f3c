use Rattle.std.proofs.Common.{refl, arith}
use Rattle.tail_cert.specs.Form.{entry_bytes}
use Rattle.tail_cert.proofs.Pieces.{put_piece}
use Rattle.tail_cert.proofs.writing.put_entry.Goals as goal

pub returns-clause-bytes : goal.returns-clause-bytes
unfolding entry_bytes
returns-clause-bytes c = put_piece _ _ _ _ c.write_u32.ensures (omega arith)

pub returns-clause-count : goal.returns-clause-count
unfolding entry_bytes
returns-clause-count c = refl
