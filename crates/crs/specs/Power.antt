-- The power of QPSK symbols. (own)
use Rattle.std.specs.Prelude.{ℕ}

-- the squared magnitude of a QPSK symbol: 90^2 + 90^2
abbrev pub point_power : ℕ
point_power = 16200
