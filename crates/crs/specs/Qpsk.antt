-- QPSK modulation (TS 36.211 section 7.1.2). The amplitude is own.
use Rattle.std.specs.Prelude.{◌≡◌, ◌⊎◌, Bool, true, false, ℤ, pos, negsuc}
use Rattle.cs_num.specs.declared.Cpx.{Cpx}

-- the component of a QPSK symbol for a bit: 90 for 0 and -90 for 1
abbrev pub component : Bool → ℤ
component false = pos 90
component true = negsuc 89

-- the QPSK symbol for two bits: the first gives the real part, the second the imaginary part
abbrev pub point : Bool → Bool → Cpx
point first second = record { re = component first; im = component second }

-- the component `z` is 90 or -90
abbrev pub IsFull : ℤ → Type 0
IsFull z = (z ≡ pos 90) ⊎ (z ≡ negsuc 89)

-- both components of `a` are 90 or -90, as in a QPSK symbol
pub record IsPoint (a : Cpx) : Type 0 where
  pub re : IsFull a.re
  pub im : IsFull a.im
