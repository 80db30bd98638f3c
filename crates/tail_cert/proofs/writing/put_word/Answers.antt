use Rattle.std.proofs.Common.{◌≡◌, refl, ◌∙◌, ap, arith}
use Rattle.cs_bits.specs.Numbers.{number}
use Rattle.tail_cert.specs.Form.{word_bytes}
use Rattle.tail_cert.proofs.Pieces.{put_piece}
use Rattle.tail_cert.proofs.writing.put_word.Goals as goal

pub returns-clause-bytes : goal.returns-clause-bytes
unfolding word_bytes
returns-clause-bytes c =
    let e : c.number_of.result ≡ number c.args.word.now = c.number_of.ensures.value ∙ ap number c.slice.ensures.bits in
    put_piece _ _ _ _ (rw e at c.write_uint.ensures) (omega arith)

pub returns-clause-count : goal.returns-clause-count
unfolding word_bytes
returns-clause-count c = refl
