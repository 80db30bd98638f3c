-- Complex gains as pairs of integers. (own)
use Rattle.std.specs.Prelude.{ℤ}
use Rattle.cs_num.specs.declared.Cpx.{Cpx}
use Rattle.cs_num.specs.Gain.{with_parts}

-- the complex number of a pair, real part first
abbrev pub gain_of : ℤ × ℤ → Cpx
gain_of pair = with_parts pair.0 pair.1
