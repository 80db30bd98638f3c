-- Rounding and clamping of integers. (own)
use Rattle.std.specs.Prelude.{ℕ, ◌+◌, ◌-◌, ◌*◌, ◌/◌, ◌^◌, ℤ, pos, negsuc, ◌+ℤ◌, ◌*ℤ◌, neg_ℤ, min}
use Rattle.std.specs.Int.{w16, saturate_signed}
use Rattle.cs_num.specs.declared.Cpx.{Cpx}
use Rattle.cs_num.specs.declared.Sample.{Sample}

-- x / d, rounded down
abbrev pub floor_div : ℤ → ℕ → ℤ
floor_div (pos n) d = pos (n / d)
floor_div (negsuc n) d = negsuc (n / d)

-- x / 2 ^ bits, rounded to nearest, ties up
abbrev pub round_shifted : ℤ → ℕ → ℤ
round_shifted x bits = floor_div (x +ℤ pos (2 ^ (bits - 1))) (2 ^ bits)

-- a complex integer divided by 2 ^ bits, each component rounded to nearest, ties up
abbrev pub rounded : Cpx → ℕ → Cpx
rounded a bits = record { re = round_shifted a.re bits; im = round_shifted a.im bits }

-- x / d, rounded to nearest, ties up
abbrev pub rounded_quotient : ℤ → ℕ → ℤ
rounded_quotient x d = floor_div (pos 2 *ℤ x +ℤ pos d) (2 * d)

-- a complex integer divided by d, each component rounded to nearest, ties up
abbrev pub quotient : Cpx → ℕ → Cpx
quotient a d = record { re = rounded_quotient a.re d; im = rounded_quotient a.im d }

-- the signed 16-bit number nearest to `x`
abbrev pub in_16_bits : ℤ → ℤ
in_16_bits x = saturate_signed w16 x

-- the sample nearest to a complex integer, component by component
abbrev pub nearest_sample : Cpx → Sample
nearest_sample a = record { re = in_16_bits a.re; im = in_16_bits a.im }

-- an integer, clamped to -`limit` to `limit`
abbrev pub clamped : ℤ → ℕ → ℤ
clamped (pos n) limit = pos (min n limit)
clamped (negsuc n) limit = neg_ℤ (pos (min (n + 1) limit))
