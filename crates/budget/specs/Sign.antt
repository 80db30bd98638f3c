-- The sign and magnitude of a soft value: how strongly a component supports the bit that it carries. (own)
use Rattle.std.specs.Prelude.{ℕ, ◌+◌, ◌*◌, ◌≤◌, Bool, true, false, ℤ, pos, negsuc, ◌-ℤ◌, ◌*ℤ◌, ◌≤ℤ◌, nat_abs}
use Rattle.cs_bits.specs.Signs.{Supports}
use Rattle.crs.specs.Qpsk.{component}
use Rattle.soft_bits.specs.Soft.{soft_value}

-- the sign of a bit: 1 for 0, and -1 for 1
abbrev pub sign : Bool → ℤ
sign false = pos 1
sign true = negsuc 0

-- a soft value supports a bit with a magnitude from 1 to 127 if six times the component `c`, times the bit's sign, is
-- at least the magnitude times the energy
abbrev pub LargeComponentSpeaks : Type 0
LargeComponentSpeaks = (magnitude energy : ℕ) (bit : Bool) (c : ℤ) → 1 ≤ magnitude → magnitude ≤ 127 → 1 ≤ energy →
    pos (magnitude * energy) ≤ℤ (pos 6 *ℤ (sign bit *ℤ c)) → Supports magnitude bit (soft_value c energy)

-- A soft value supports a bit with a magnitude if its component is close to a multiple of the bit's own component. In
-- any unit, `scale` times the component is `main` times the bit's component (90), within `off`, and `scale` times the
-- energy is at most `most`. The values leave room: 540 times `main`, less six times `off`, is at least the magnitude
-- times `most`.
abbrev pub NearComponentSpeaks : Type 0
NearComponentSpeaks =
    (magnitude main off most : ℕ) → 1 ≤ magnitude → magnitude ≤ 127 → magnitude * most + 6 * off ≤ 540 * main →
    (scale unit energy : ℕ) (bit : Bool) (c : ℤ) → 1 ≤ scale → 1 ≤ energy → scale * energy ≤ most * unit →
    nat_abs (pos scale *ℤ c -ℤ pos (main * unit) *ℤ component bit) ≤ off * unit →
    Supports magnitude bit (soft_value c energy)
