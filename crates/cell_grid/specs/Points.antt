-- The scrambled bits of a channel and their QPSK symbols, two bits per symbol (TS 36.211 sections 7.2 and 7.1.2).
use Rattle.std.specs.Prelude.{ℕ, ◌+◌, ◌*◌, Bool}
use Rattle.cs_num.specs.declared.Cpx.{Cpx}
use Rattle.finite.specs.Bits.{xor}
use Rattle.gold.specs.Gold.{gold_bit}
use Rattle.crs.specs.Qpsk.{point}

-- bit `i` of `bits`, scrambled with the Gold sequence for `c_init`
abbrev pub scrambled : ℕ → (ℕ → Bool) → ℕ → Bool
scrambled c_init bits i = xor (bits i) (gold_bit c_init i)

-- QPSK symbol `i` of a bit sequence, which carries bits `2 * i` and `2 * i + 1`
abbrev pub point_of : (ℕ → Bool) → ℕ → Cpx
point_of bits i = point (bits (2 * i)) (bits (2 * i + 1))
