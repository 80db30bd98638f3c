use Rattle.std.proofs.Common.{◌++◌, List, Bool, ap, ap₂, sym, ◌∙◌, arith, bit_xor}
use Rattle.std.proofs.lemmas.List.{take_all}
use Rattle.cs_bits.specs.Numbers.{bits_of}
use Rattle.cs_bits.specs.Checks.{crc16_of}
use Rattle.cell_grid.proofs.control.with_check.Goals as goal

pub returns : goal.returns
returns c =
    c.new.ensures ∙ sym (take_all 37 c.put_bits.new.bits (let e = c.put_bits.ensures.count in let long = c.put_message.array_long in omega (arith, e, long)))
    ∙ c.put_bits.ensures.bits
    ∙ ap₂ (λ (front back : List Bool). front ++ back) c.put_message.ensures
    (ap (λ n. bits_of 16 (bit_xor n 65535)) (c.crc16-check.ensures ∙ ap crc16_of c.slice.ensures.bits))
