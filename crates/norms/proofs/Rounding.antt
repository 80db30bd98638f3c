-- The rounding error of a complex integer.
use Rattle.std.proofs.Common.{◌≡◌, ℕ, ◌-◌, ◌*◌, ◌^◌, ◌<◌}
use Rattle.cs_num.specs.declared.Cpx.{Cpx}
use Rattle.cs_num.specs.Complex.{IsWithin, minus, multiple}
use Rattle.cs_num.specs.Rounding.{rounded}
use Rattle.cs_num.proofs.Rounding.{rounds_near}

-- dividing by 2h, rounding and multiplying by 2h changes each component by at most h
pub rounded_near : (z : Cpx) (bits h : ℕ) → 0 < h → 2 ^ (bits - 1) ≡ h → 2 ^ bits ≡ 2 * h → IsWithin h (minus (multiple (2 * h) (rounded z bits)) z)
rounded_near z bits h p e f = rw (e, f) (record { re = rounds_near z.re h p; im = rounds_near z.im h p })
