use Rattle.std.proofs.Common.{◌≡◌, ◌∙◌, ap, sym, arith}
use Rattle.cs_bits.specs.Numbers.{number}
use Rattle.tail_cert.specs.Form.{set_bytes, set_of}
use Rattle.tail_cert.specs.Stored.{shown}
use Rattle.tail_cert.proofs.Codes.{set_size}
use Rattle.tail_cert.proofs.Pieces.{put_piece}
use Rattle.tail_cert.proofs.Shown.{same_set}
use Rattle.tail_cert.proofs.writing.put_set.Goals as goal

pub returns-clause-bytes : goal.returns-clause-bytes
unfolding set_bytes
returns-clause-bytes c = λ tables.
    let e : c.number_of.result ≡ number (set_of (shown c.args.set.now tables)) =
    c.number_of.ensures.value ∙ ap number (c.slice.ensures.bits ∙ sym (same_set c.args.set.now tables c.requires.states)) in
    put_piece _ _ _ _ (rw e at c.write_u64.ensures) (omega arith)

pub returns-clause-count : goal.returns-clause-count
returns-clause-count c = λ tables. set_size (shown c.args.set.now tables)
