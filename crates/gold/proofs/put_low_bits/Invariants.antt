use Rattle.std.proofs.Common.{◌≡◌, ◌/◌, ◌^◌, take}
use Rattle.gold.specs.Register.{low_bits}
use Rattle.gold.proofs.put_low_bits.Given as goal

abbrev pub invariant-loop-bit : goal.invariant-loop-bit
invariant-loop-bit l = record {
  left : l.left ≡ l.number / 2 ^ l.bit-index;
  written : take l.bit-index l.out ≡ low_bits l.bit-index l.number;
}
