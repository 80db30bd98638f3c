-- Exact laws of the tables, although their entries are rounded. (own)
use Rattle.std.specs.Prelude.{◌≡◌, ℕ, ◌+◌, ◌*◌, ◌%◌, ◌≤◌}
use Rattle.cs_num.specs.Complex.{nothing, times_j, negated, conjugate}
use Rattle.cs_num.specs.Sums.{complex_sum_below}
use Rattle.fold128.specs.Tables.{w_at, z_at}

-- W has period 128
abbrev pub WHasPeriod : Type 0
WHasPeriod = (m : ℕ) → w_at (m + 128) ≡ w_at m

-- half a period negates W
abbrev pub HalfTurnNegates : Type 0
HalfTurnNegates = (m : ℕ) → w_at (m + 64) ≡ negated (w_at m)

-- a quarter period multiplies W by j
abbrev pub QuarterTurnIsJ : Type 0
QuarterTurnIsJ = (m : ℕ) → w_at (m + 32) ≡ times_j (w_at m)

-- W(-m) is the conjugate of W(m)
abbrev pub BackwardIsConjugate : Type 0
BackwardIsConjugate = (m : ℕ) → w_at (127 * m) ≡ conjugate (w_at m)

-- a tone whose frequency is not 0 modulo 128 sums to zero over 128 samples
abbrev pub TonesCancel : Type 0
TonesCancel = (d : ℕ) → 1 ≤ d % 128 → complex_sum_below 128 (λ n. w_at (d * n)) ≡ nothing

-- Z has period 63
abbrev pub ZHasPeriod : Type 0
ZHasPeriod = (m : ℕ) → z_at (m + 63) ≡ z_at m

-- Z(-m) is the conjugate of Z(m)
abbrev pub ZBackwardIsConjugate : Type 0
ZBackwardIsConjugate = (m : ℕ) → z_at (62 * m) ≡ conjugate (z_at m)
