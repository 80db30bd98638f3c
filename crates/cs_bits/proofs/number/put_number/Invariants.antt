use Rattle.std.proofs.Common.{◌≡◌, ℕ, ◌-◌, ◌/◌, ◌^◌, ◌<◌, get_or, false, length}
use Rattle.finite.specs.Bits.{odd}
use Rattle.cs_bits.proofs.number.put_number.Given as goal

abbrev pub invariant-loop-i : goal.invariant-loop-i
invariant-loop-i l = record {
  size : length l.out ≡ l.width;
  written : (k : ℕ) → k < l.i → get_or l.out k false ≡ odd (l.number / 2 ^ (l.width - 1 - k));
}
