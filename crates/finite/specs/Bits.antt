-- Bits: the sum modulo 2, and the lowest bit of a number.
use Rattle.std.specs.Prelude.{ℕ, ◌%◌, Bool, not, nat_eq}
use Rattle.std.specs.Bool.{beq}

-- the sum modulo 2 (exclusive or)
abbrev pub xor : Bool → Bool → Bool
xor a b = not (beq a b)

-- whether a number is odd
abbrev pub odd : ℕ → Bool
odd n = nat_eq (n % 2) 1
