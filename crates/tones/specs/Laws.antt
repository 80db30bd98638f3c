-- Exact laws of the table, although its entries are rounded. (own)
use Rattle.std.specs.Prelude.{◌≡◌, ℕ, ◌+◌}
use Rattle.cs_num.specs.Complex.{negated, times_j}
use Rattle.tones.specs.Tones.{t_at}

-- a law: the table T repeats after 2,048 entries
abbrev pub THasPeriod : Type 0
THasPeriod = (m : ℕ) → t_at (m + 2048) ≡ t_at m

-- a law: half a period further, the entry of the table T is the negative
abbrev pub HalfTurnNegates : Type 0
HalfTurnNegates = (m : ℕ) → t_at (m + 1024) ≡ negated (t_at m)

-- a quarter period multiplies by j
abbrev pub QuarterTurnIsJ : Type 0
QuarterTurnIsJ = (m : ℕ) → t_at (m + 512) ≡ times_j (t_at m)
