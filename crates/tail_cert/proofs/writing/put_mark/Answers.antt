use Rattle.std.proofs.Common.{refl}
use Rattle.tail_cert.specs.Form.{with_piece}
use Rattle.tail_cert.proofs.writing.put_mark.Goals as goal

pub returns : goal.returns
unfolding with_piece
returns c = rw c.copy_from_slice.ensures.after refl
