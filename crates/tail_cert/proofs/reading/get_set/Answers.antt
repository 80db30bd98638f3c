use Rattle.std.proofs.Common.{◌≡◌, ◌-◌, ◌^◌, ◌/◌, drop, ap, ◌∙◌, arith}
use Rattle.std.proofs.lemmas.List.{length-drop, take_rest}
use Rattle.byteorder.specs.Endian.{little_bytes, little_number}
use Rattle.finite.specs.Bits.{odd}
use Rattle.cs_bits.specs.Numbers.{number}
use Rattle.cs_bits.proofs.Numbers.{get_or-bits_of, number_of_bits}
use Rattle.tail_cert.specs.Form.{set_bytes}
use Rattle.tail_cert.proofs.Numbers.{rest_bytes, eight_bytes}
use Rattle.tail_cert.proofs.Shown.{same_set}
use Rattle.tail_cert.proofs.reading.get_set.Goals as goal

pub returns-clause-states : goal.returns-clause-states
returns-clause-states c = λ s below.
    let n = c.read_u64.ensures ∙ ap (little_number 8) (take_rest c.args.bytes.now 10493) in
    let power : 64 - 1 - (63 - s) ≡ s = omega (arith, below) in
    rw (c.of_number.ensures.word) (get_or-bits_of 64 c.read_u64.result (63 - s) (omega arith) ∙ ap (λ m. odd (c.read_u64.result / 2 ^ m)) power ∙ ap (λ m. odd (m / 2 ^ s)) n)

pub returns-clause-bytes : goal.returns-clause-bytes
unfolding set_bytes
returns-clause-bytes c = λ tables.
    let rest = drop 10493 c.args.bytes.now in
    let n : c.read_u64.result ≡ little_number 8 rest = c.read_u64.ensures ∙ ap (little_number 8) (take_rest c.args.bytes.now 10493) in
    let eight = eight_bytes rest (omega (arith, length-drop 10493 c.args.bytes.now, c.requires)) (rest_bytes c.args.bytes.now 10493 c.type_inv.bytes) in
    ap (λ set. little_bytes 8 (number set)) (same_set c.of_number.result tables c.of_number.ensures.count ∙ c.of_number.ensures.word)
    ∙ ap (little_bytes 8) (number_of_bits 64 c.read_u64.result (rw n eight.1) ∙ n) ∙ eight.0
