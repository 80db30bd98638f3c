use Rattle.std.proofs.Common.{◌≡◌, take}
use Rattle.cs_bits.specs.Numbers.{number}
use Rattle.cs_bits.proofs.number.number_of.Given as goal

abbrev pub invariant-loop-bit : goal.invariant-loop-bit
invariant-loop-bit l = l.number ≡ number (take l.bit-index l.bits)
