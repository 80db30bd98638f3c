-- The encoder as an 8-state machine. A state holds the register's last three bits, the latest with weight 4 (TS
-- 36.212 section 5.1.3.2.1).
use Rattle.std.specs.Prelude.{ℕ, ◌+◌, ◌*◌, ◌/◌, ◌%◌, Bool, cond}
use Rattle.finite.specs.Bits.{xor, odd}

-- the register bit in a step from state `x` with input bit `u`: a(k) = u(k) + a(k - 2) + a(k - 3)
abbrev pub register : ℕ → Bool → Bool
register x u = xor (xor u (odd (x / 2))) (odd x)

-- the parity bit in a step from state `x` with input bit `u`: z(k) = a(k) + a(k - 1) + a(k - 3)
abbrev pub parity_bit : ℕ → Bool → Bool
parity_bit x u = xor (xor (register x u) (odd (x / 4))) (odd x)

-- the state after a step from state `x` with input bit `u`
abbrev pub next : ℕ → Bool → ℕ
next x u = x / 2 + cond (register x u) 4 0

-- the systematic bit in a tail step from state `x`, which leads to the state x / 2
abbrev pub tail_bit : ℕ → Bool
tail_bit x = xor (odd (x / 2)) (odd x)

-- the parity bit in a tail step from state `x`
abbrev pub tail_parity : ℕ → Bool
tail_parity x = xor (odd (x / 4)) (odd x)

-- the first of the two states that have a step to state `x`
abbrev pub first_from : ℕ → ℕ
first_from x = 2 * (x % 4)

-- the second of the two states that have a step to state `x`
abbrev pub second_from : ℕ → ℕ
second_from x = 2 * (x % 4) + 1

-- the input bit in the step from state `p` to state `x`, if there is such a step
abbrev pub bit_to : ℕ → ℕ → Bool
bit_to p x = xor (xor (odd (x / 4)) (odd (p / 2))) (odd p)
