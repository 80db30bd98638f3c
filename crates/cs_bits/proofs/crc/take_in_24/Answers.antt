use Rattle.std.proofs.Common.{arith, ◌<◌, ◌*◌, ◌%◌, ◌^◌, bit_and, lit<}
use Rattle.std.proofs.lemmas.Nat.{xor_lt, and_mask}
use Rattle.cs_bits.proofs.crc.take_in_24.Goals as goal

pub returns-then-bit-register-clause-fits : goal.returns-then-bit-register-clause-fits
returns-then-bit-register-clause-fits c =
    let x = c.args.register * 2 % 4294967296 in
    let h : bit_and x 16777215 < 2 ^ 24 = omega (arith, and_mask x 24) in
    xor_lt 24 (bit_and x 16777215) 8801531 h (lit< tt)
