use Rattle.std.proofs.Common.{◌≡◌, drop, ap, ◌∙◌, arith}
use Rattle.std.specs.Int.{w16, cast_signed}
use Rattle.std.proofs.lemmas.Int.{of_z-to_z}
use Rattle.std.proofs.lemmas.List.{length-drop, take_rest}
use Rattle.byteorder.specs.Endian.{little_bytes, little_number}
use Rattle.tail_cert.specs.Form.{value_at, value_bytes}
use Rattle.tail_cert.proofs.Numbers.{rest_bytes, two_bytes, wide_value}
use Rattle.tail_cert.proofs.reading.get_value.Goals as goal

pub returns-clause-value : goal.returns-clause-value
unfolding value_at
returns-clause-value c =
    let rest = drop c.args.at c.args.bytes.now in
    let e : c.read_i16.result ≡ cast_signed w16 (little_number 2 rest) = c.read_i16.ensures ∙ ap (λ l. cast_signed w16 (little_number 2 l)) (take_rest c.args.bytes.now c.args.at) in
    let two = two_bytes rest (omega (arith, length-drop c.args.at c.args.bytes.now)) (rest_bytes c.args.bytes.now c.args.at c.type_inv.bytes) in
    rw e (wide_value (little_number 2 rest) two.1)

pub returns-clause-bytes : goal.returns-clause-bytes
unfolding value_bytes
returns-clause-bytes c =
    let rest = drop c.args.at c.args.bytes.now in
    let e : c.read_i16.result ≡ cast_signed w16 (little_number 2 rest) = c.read_i16.ensures ∙ ap (λ l. cast_signed w16 (little_number 2 l)) (take_rest c.args.bytes.now c.args.at) in
    let two = two_bytes rest (omega (arith, length-drop c.args.at c.args.bytes.now)) (rest_bytes c.args.bytes.now c.args.at c.type_inv.bytes) in
    rw (e, wide_value (little_number 2 rest) two.1) (ap (little_bytes 2) (of_z-to_z w16 (little_number 2 rest) two.1) ∙ two.0)
