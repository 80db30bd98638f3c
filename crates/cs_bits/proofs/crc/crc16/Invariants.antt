use Rattle.std.proofs.Common.{◌<◌}
use Rattle.cs_bits.proofs.Division.{Kept}
use Rattle.cs_bits.proofs.crc.crc16.Given as goal

abbrev pub invariant-loop-bit : goal.invariant-loop-bit
invariant-loop-bit l = record { fits : l.register < 65536; kept : Kept 15 4129 l.bits l.bit-index l.register }
