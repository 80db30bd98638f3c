use Rattle.std.proofs.Common.{arith, refl}
use Rattle.tail_cert.specs.Form.{entry_bytes, row_bytes}
use Rattle.tail_cert.proofs.Pieces.{put_part, pieces_size}
use Rattle.tail_cert.proofs.writing.put_row.Goals as goal

pub returns-clause-count : goal.returns-clause-count
unfolding row_bytes entry_bytes
returns-clause-count c = omega (arith, c.told-row, pieces_size entry_bytes 4 (λ n. refl) c.args.row.now)

pub returns-clause-bytes : goal.returns-clause-bytes
unfolding row_bytes entry_bytes
returns-clause-bytes c = put_part c.args.at 256 (row_bytes c.args.row.now) c.args.out.now _ c.write_u32_into.ensures (returns-clause-count c)
