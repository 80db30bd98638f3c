use Rattle.std.proofs.Common.{◌≡◌, drop, ap, ◌∙◌, arith}
use Rattle.std.proofs.lemmas.List.{length-drop, take_rest}
use Rattle.byteorder.specs.Endian.{big_number}
use Rattle.cs_bits.proofs.Numbers.{number_of_bits}
use Rattle.tail_cert.specs.Form.{word_bytes}
use Rattle.tail_cert.proofs.Numbers.{rest_bytes, five_bytes}
use Rattle.tail_cert.proofs.reading.get_word.Goals as goal

pub returns-clause-bytes : goal.returns-clause-bytes
unfolding word_bytes
returns-clause-bytes c =
    let rest = drop c.args.at c.args.bytes.now in
    let e : c.read_uint.result ≡ big_number 5 rest = c.read_uint.ensures ∙ ap (big_number 5) (take_rest c.args.bytes.now c.args.at) in
    let five = five_bytes rest (omega (arith, length-drop c.args.at c.args.bytes.now)) (rest_bytes c.args.bytes.now c.args.at c.type_inv.bytes) in
    rw (c.of_number.ensures.word, e, number_of_bits 40 (big_number 5 rest) five.1) five.0
