-- A received symbol and its demodulated values: a gain times the transmitted symbol, up to errors. Gains are in units
-- of 2^-14. (own; the useful part is in TS 36.211 section 6.12)
use Rattle.std.specs.Prelude.{ℕ, ◌+◌, ◌*◌, ◌^◌, ◌<◌, ◌≤◌, List}
use Rattle.cs_num.specs.declared.Cpx.{Cpx}
use Rattle.cs_num.specs.declared.Sample.{Sample}
use Rattle.cs_num.specs.Complex.{times, square, sample_at, minus, multiple}
use Rattle.cs_num.specs.Sums.{complex_sum_below}
use Rattle.norms.specs.Magnitudes.{energy_below}
use Rattle.fold128.specs.Symbol.{useful_at}
use Rattle.lte_types.specs.Numerology.{subcarriers, useful_length}

-- a symbol's elements, indexed by subcarrier, have magnitudes up to 256
abbrev pub AreAmplitudes : (ℕ → Cpx) → Type 0
AreAmplitudes grid = (k : ℕ) → k < subcarriers → square (grid k) ≤ 256 * 256

-- a value in units of 2^-14
abbrev pub in_parts : Cpx → Cpx
in_parts value = multiple 16384 value

-- the deviation of sample `n` from its value; the result and `values` are in units of 2^-14
abbrev pub off_by : (ℕ → Cpx) → (ℕ → Cpx) → ℕ → Cpx
off_by samples values n = minus (in_parts (samples n)) (values n)

-- 128 samples are the useful part of a symbol with elements `grid` times a gain, which is in units of 2^-14 and has a
-- magnitude of at least 1. The error energy is at most `quota` times the gain's square.
pub record IsReceived (quota : ℕ) (gain : Cpx) (grid samples : ℕ → Cpx) : Type 0 where
  pub sounds : 2 ^ 28 ≤ square gain
  pub quiet : energy_below useful_length (off_by samples (λ n. times gain (useful_at grid n))) ≤ quota * square gain

-- the sum received from several ports, each port's value times its gain
abbrev pub received_of : ℕ → (ℕ → Cpx) → (ℕ → Cpx) → Cpx
received_of ports gains sent = complex_sum_below ports (λ port. times (gains port) (sent port))

-- 128 samples are received from several ports' symbols, with gains in units of 2^-14. The error energy is at most
-- `quota` times the gains' summed squares, which are at least 1.
pub record IsReceivedBy (ports quota : ℕ) (gains : ℕ → Cpx) (grids : ℕ → ℕ → Cpx) (samples : ℕ → Cpx) : Type 0 where
  pub sounds : 2 ^ 28 ≤ energy_below ports gains
  pub quiet :
      energy_below useful_length (off_by samples (λ n. received_of ports gains (λ port. useful_at (grids port) n))) ≤
      quota * energy_below ports gains

-- sample `n` of a recording, counted from sample `start`
abbrev pub samples_from : List Sample → ℕ → ℕ → Cpx
samples_from recording start n = sample_at recording (start + n)

-- a demodulated value `seen` is 64 times `value`, which is in units of 2^-14, within `most` times a magnitude whose
-- square is `n`
pub record IsSeenNear (most n : ℕ) (value seen : Cpx) : Type 0 where
  pub off : square (minus (in_parts seen) (multiple 64 value)) ≤ most * most * n

-- a demodulated amplitude `seen` is 64 times its gain, in units of 2^-14, times its amplitude, within `most` times the
-- gain's magnitude, that is, within `most` / 64 amplitude units
abbrev pub IsSeenAs : ℕ → Cpx → Cpx → Cpx → Type 0
IsSeenAs most gain amplitude seen = IsSeenNear most (square gain) (times gain amplitude) seen

-- a demodulated value is 64 times the sum received from several ports, within `most` times the root of the gains'
-- summed squares
abbrev pub IsSeenBy : ℕ → ℕ → (ℕ → Cpx) → (ℕ → Cpx) → Cpx → Type 0
IsSeenBy ports most gains amplitudes seen =
    IsSeenNear most (energy_below ports gains) (received_of ports gains amplitudes) seen
