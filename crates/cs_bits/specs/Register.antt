-- The shift register that divides bit by bit. (own)
use Rattle.std.specs.Prelude.{ℕ, suc, ◌*◌, ◌%◌, ◌^◌, Bool, cond, bit_xor, nat_eq}
use Rattle.std.specs.Int.{bit_at}
use Rattle.finite.specs.Bits.{xor}

-- the CRC register of k + 1 bits after the input bit `x`; `g` holds the divisor's coefficients below the leading one
abbrev pub next : ℕ → ℕ → ℕ → Bool → ℕ
next k g register x =
    let shifted = (register * 2) % 2 ^ suc k in cond (xor x (nat_eq (bit_at register k) 1)) (bit_xor shifted g) shifted
