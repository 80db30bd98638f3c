-- An OFDM symbol: 72 subcarriers, and a useful part with 128 samples. (TS 36.211 section 6.12, in integers)
use Rattle.std.specs.Prelude.{ℕ, ◌+◌, ◌-◌, ◌*◌, List, nat_lt, if◌then◌else◌}
use Rattle.cs_num.specs.declared.Cpx.{Cpx}
use Rattle.cs_num.specs.Complex.{times}
use Rattle.cs_num.specs.Rounding.{rounded}
use Rattle.finite.specs.Lists.{values_below}
use Rattle.cs_num.specs.Sums.{complex_sum_below}
use Rattle.fold128.specs.Tables.{w_at}
use Rattle.lte_types.specs.Numerology.{subcarriers, useful_length}

-- the frequency of subcarrier `k`, from -36 to 36 without 0, modulo 128
abbrev pub frequency : ℕ → ℕ
frequency k = if nat_lt k 36 then k + 92 else k - 35

-- subcarrier k's contribution to sample n of the useful part
abbrev pub useful_term : (ℕ → Cpx) → ℕ → ℕ → Cpx
useful_term grid n k = times (grid k) (w_at (frequency k * n))

-- sample n of the useful part: the sum over all subcarriers, scaled by 2^-17 and rounded
unfoldable pub useful_at : (ℕ → Cpx) → ℕ → Cpx
useful_at grid n = rounded (complex_sum_below subcarriers (useful_term grid n)) 17

-- the complete useful part
unfoldable pub useful_part : (ℕ → Cpx) → List Cpx
useful_part grid = values_below useful_length (useful_at grid)
