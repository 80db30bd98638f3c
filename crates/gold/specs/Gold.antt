-- The pseudo-random sequence c, a length-31 Gold sequence: the XOR of the 31-bit LFSR sequences x1 and x2, where c_init
-- gives the first bits of x2 (TS 36.211 section 7.2).
use Rattle.std.specs.Prelude.{ℕ, ◌+◌, Bool, List, map}
use Rattle.std.specs.List.{range_with_len}
use Rattle.finite.specs.Bits.{xor}
use Rattle.gold.specs.Sequence.{x1, x2}

-- c(n), bit `n` of the sequence for `c_init`
unfoldable pub gold_bit : ℕ → ℕ → Bool
gold_bit c_init n = xor (x1 (n + 1600)) (x2 c_init (n + 1600))

-- the bits c(0) to c(count - 1) of the sequence for `c_init`
unfoldable pub gold_bits : ℕ → ℕ → List Bool
gold_bits c_init count = map (gold_bit c_init) (range_with_len 0 count)
