-- Gains: the complex integers by which a channel multiplies. (own)
use Rattle.std.specs.Prelude.{◌≤◌, ℤ}
use Rattle.cs_num.specs.declared.Cpx.{Cpx}
use Rattle.cs_num.specs.Complex.{square}

-- the complex integer `re` + j `im`
abbrev pub with_parts : ℤ → ℤ → Cpx
with_parts re im = record { re = re; im = im }

-- `gain` has a squared magnitude of 1 to 784
pub record IsGain (gain : Cpx) : Type 0 where
  pub least : 1 ≤ square gain
  pub most : square gain ≤ 784
