-- The unnormalised DFT of a symbol's useful part on the 72 subcarriers. (own; the inverse of TS 36.211 section 6.12,
-- in integers)
use Rattle.std.specs.Prelude.{ℕ, ◌*◌, List}
use Rattle.cs_num.specs.declared.Cpx.{Cpx}
use Rattle.cs_num.specs.Complex.{times, conjugate}
use Rattle.cs_num.specs.Sums.{complex_sum_below}
use Rattle.finite.specs.Lists.{values_below}
use Rattle.fold128.specs.Tables.{w_at}
use Rattle.fold128.specs.Symbol.{frequency}
use Rattle.lte_types.specs.Numerology.{subcarriers, useful_length}

-- sample n's contribution to subcarrier k
abbrev pub spectrum_term : (ℕ → Cpx) → ℕ → ℕ → Cpx
spectrum_term samples k n = times (samples n) (conjugate (w_at (frequency k * n)))

-- the DFT at subcarrier k
unfoldable pub spectrum_at : (ℕ → Cpx) → ℕ → Cpx
spectrum_at samples k = complex_sum_below useful_length (spectrum_term samples k)

-- the DFT at all subcarriers
unfoldable pub spectrum : (ℕ → Cpx) → List Cpx
spectrum samples = values_below subcarriers (spectrum_at samples)
