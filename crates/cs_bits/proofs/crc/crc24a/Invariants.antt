use Rattle.std.proofs.Common.{◌<◌}
use Rattle.cs_bits.proofs.Division.{Kept}
use Rattle.cs_bits.proofs.crc.crc24a.Given as goal

abbrev pub invariant-loop-bit : goal.invariant-loop-bit
invariant-loop-bit l = record { fits : l.register < 16777216; kept : Kept 23 8801531 l.bits l.bit-index l.register }
