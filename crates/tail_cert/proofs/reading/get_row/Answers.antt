use Rattle.std.proofs.Common.{◌≡◌, ◌∙◌, ◌+◌, ◌-◌, take, drop, ap, arith}
use Rattle.std.proofs.lemmas.List.{length-take-le, length-drop}
use Rattle.tail_cert.specs.Form.{entry_bytes, row_bytes}
use Rattle.tail_cert.proofs.Numbers.{entries_read, part_bytes}
use Rattle.tail_cert.proofs.reading.get_row.Goals as goal

pub returns-clause-bytes : goal.returns-clause-bytes
unfolding row_bytes entry_bytes
returns-clause-bytes c =
    let count : c.args.at + 256 - c.args.at ≡ 256 = omega arith in
    let size = length-take-le 256 (drop c.args.at c.args.bytes.now) (omega (arith, length-drop c.args.at c.args.bytes.now)) in
    entries_read _ c.read_u32_into.new.dst (omega (arith, size, count, c.read_u32_into.auto.dst)) (part_bytes c.args.bytes.now c.args.at _ c.type_inv.bytes) c.read_u32_into.ensures
    ∙ ap (λ n. take n (drop c.args.at c.args.bytes.now)) count
