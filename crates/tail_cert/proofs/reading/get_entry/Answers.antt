use Rattle.std.proofs.Common.{◌≡◌, drop, ap, ◌∙◌, arith}
use Rattle.std.proofs.lemmas.List.{length-drop, take_rest}
use Rattle.byteorder.specs.Endian.{little_number}
use Rattle.tail_cert.specs.Form.{entry_bytes}
use Rattle.tail_cert.proofs.Numbers.{rest_bytes, four_bytes}
use Rattle.tail_cert.proofs.reading.get_entry.Goals as goal

pub returns : goal.returns
unfolding entry_bytes
returns c =
    let rest = drop c.args.at c.args.bytes.now in
    let e : c.read_u32.result ≡ little_number 4 rest = c.read_u32.ensures ∙ ap (little_number 4) (take_rest c.args.bytes.now c.args.at) in
    rw e (four_bytes rest (omega (arith, length-drop c.args.at c.args.bytes.now)) (rest_bytes c.args.bytes.now c.args.at c.type_inv.bytes))
