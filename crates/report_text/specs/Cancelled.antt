-- The lines for a cancelled cell. (own)
use Rattle.std.specs.Prelude.{ℕ, List, ◌++◌, codes}
use Rattle.std.specs.Fmt.{decimal, signed_decimal}
use Rattle.cs_num.specs.declared.Cpx.{Cpx}

-- the part of a `cancelled` line with the gain that cancels the cell
abbrev pub gain_part : Cpx → List ℕ
gain_part gain = codes " gain " ++ signed_decimal gain.re ++ codes " " ++ signed_decimal gain.im

-- the line with the cell identity, the gain, and the largest component magnitude of the residual
abbrev pub cancelled_line : ℕ → Cpx → ℕ → List ℕ
cancelled_line id gain greatest =
    codes "cancelled " ++ decimal id ++ gain_part gain ++ codes " residue " ++ decimal greatest ++ codes "\n"

-- the line with the recording's power before and after the cell is cancelled
abbrev pub power_line : ℕ → ℕ → List ℕ
power_line before after = codes "power " ++ decimal before ++ codes " " ++ decimal after ++ codes "\n"

abbrev pub cancelled_lines : ℕ → Cpx → ℕ → ℕ → ℕ → List ℕ
cancelled_lines id gain greatest before after = cancelled_line id gain greatest ++ power_line before after

-- the line that reports that no cell can be cancelled
abbrev pub cancelled_none : List ℕ
cancelled_none = codes "cancelled none\n"
