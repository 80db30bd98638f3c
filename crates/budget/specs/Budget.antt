-- The deviation of a demodulated value from 64 times the transmitted amplitude times the gain. (own)
use Rattle.std.specs.Prelude.{◌≡◌, ℕ, ◌+◌, ◌*◌, ◌^◌, ◌<◌, ◌≤◌, List}
use Rattle.cs_num.specs.declared.Cpx.{Cpx}
use Rattle.cs_num.specs.declared.Sample.{Sample}
use Rattle.cs_num.specs.Complex.{IsWithin, plus, times, square, minus, multiple}
use Rattle.cs_num.specs.Rounding.{rounded}
use Rattle.cs_num.specs.Sums.{complex_sum_below}
use Rattle.norms.specs.Magnitudes.{energy_below}
use Rattle.fold128.specs.Symbol.{useful_term, useful_at}
use Rattle.fold128.specs.Spectrum.{spectrum_at}
use Rattle.observe.specs.Seen.{seen}
use Rattle.budget.specs.Received.{AreAmplitudes, in_parts, off_by, IsReceived, IsReceivedBy, samples_from}
use Rattle.budget.specs.Received.{IsSeenAs, IsSeenBy}
use Rattle.lte_types.specs.Numerology.{subcarriers, useful_length}

-- the demodulated value of 128 samples at subcarrier `k`
abbrev pub seen_in : (ℕ → Cpx) → ℕ → Cpx
seen_in samples k = rounded (spectrum_at samples k) 12

-- the transmit error at subcarrier `k`: 2^17 times the demodulated value of the transmitted samples before rounding,
-- less 2^35 times the amplitude
abbrev pub sending_off : (ℕ → Cpx) → Cpx → ℕ → Cpx
sending_off sent amplitude k = minus (multiple (2 ^ 17) (spectrum_at sent k)) (multiple (2 ^ 35) amplitude)

-- the transmit error of one symbol, whose elements have magnitudes up to 256, has a magnitude up to 97 * 2^31
abbrev pub SendingIsSmall : Type 0
SendingIsSmall =
    (grid : ℕ → Cpx) (k : ℕ) → AreAmplitudes grid → k < subcarriers →
    square (sending_off (useful_at grid) (grid k) k) ≤ (97 * 2 ^ 31) * (97 * 2 ^ 31)

-- 2^17 times sample `n` of a symbol's useful part, before rounding
abbrev pub unrounded : (ℕ → Cpx) → ℕ → Cpx
unrounded grid n = complex_sum_below subcarriers (useful_term grid n)

-- the leakage at subcarrier `k`: the demodulated value of the unrounded useful part, less 2^35 times the amplitude; the
-- rounding of the tables causes it
abbrev pub leakage : (ℕ → Cpx) → ℕ → Cpx
leakage grid k = minus (spectrum_at (unrounded grid) k) (multiple (2 ^ 35) (grid k))

-- the demodulated value, at subcarrier `k`, of the rounding errors of the useful part's samples
abbrev pub rounding_sent : (ℕ → Cpx) → ℕ → Cpx
rounding_sent grid k = spectrum_at (λ n. minus (multiple (2 ^ 17) (useful_at grid n)) (unrounded grid n)) k

-- a symbol's transmit error is its leakage plus the demodulated rounding errors of its samples
abbrev pub SendingHasTwoCauses : Type 0
SendingHasTwoCauses =
    (grid : ℕ → Cpx) (k : ℕ) → k < subcarriers →
    sending_off (useful_at grid) (grid k) k ≡ plus (leakage grid k) (rounding_sent grid k)

-- the leakage of a symbol whose elements have magnitudes up to 256 is at most 6.1 * 2^31 in magnitude; the demodulated
-- rounding errors of any symbol are at most 90.7 * 2^31
abbrev pub LeakageIsSmall : Type 0
LeakageIsSmall =
    (grid : ℕ → Cpx) (k : ℕ) → AreAmplitudes grid → k < subcarriers →
    100 * square (leakage grid k) ≤ (61 * 2 ^ 31) * (61 * 2 ^ 31)

abbrev pub RoundingSentIsSmall : Type 0
RoundingSentIsSmall = (grid : ℕ → Cpx) (k : ℕ) → 100 * square (rounding_sent grid k) ≤ (907 * 2 ^ 31) * (907 * 2 ^ 31)

-- the transmit error of two added signals is the sum of their transmit errors; a signal's gain multiplies its transmit
-- error
abbrev pub SendingIsLinear : Type 0
SendingIsLinear =
    (gain : Cpx) (sent others : ℕ → Cpx) (amplitude other : Cpx) (k : ℕ) →
    sending_off (λ n. plus (times gain (sent n)) (others n)) (plus (times gain amplitude) other) k
    ≡ plus (times gain (sending_off sent amplitude k)) (sending_off others other k)

-- The deviation of a demodulated value, in units of 2^-14, from 64 times an amplitude, multiplied by 2^29, is the sum
-- of the transmit error, the sample errors (`errors`) and the demodulated value's rounding (`rounding`).
pub record HasThreeCauses (sent samples : ℕ → Cpx) (amplitude : Cpx) (k : ℕ) : Type 0 where
  pub errors : Cpx
  pub rounding : Cpx
  pub whole : multiple (2 ^ 29) (minus (in_parts (seen_in samples k)) (multiple 64 amplitude))
      ≡ plus (sending_off sent amplitude k) (plus errors rounding)
  pub errors_is : errors ≡ multiple (2 ^ 17) (spectrum_at (off_by samples sent) k)
  pub rounding_is : rounding ≡ multiple (2 ^ 31) (minus (multiple (2 ^ 12) (seen_in samples k)) (spectrum_at samples k))
  pub errors_small : square errors ≤ 2 ^ 41 * energy_below useful_length (off_by samples sent) * (16385 * 16385)
  pub rounding_small : square rounding ≤ 2 ^ 85

-- the deviation of a demodulated value always has three causes, whatever was transmitted, gains included
abbrev pub DeviationHasThreeCauses : Type 0
DeviationHasThreeCauses = (sent samples : ℕ → Cpx) (amplitude : Cpx) (k : ℕ) → HasThreeCauses sent samples amplitude k

-- `a` times `gain`, plus `b` times `other`
abbrev pub with_gains : Cpx → Cpx → Cpx → Cpx → Cpx
with_gains gain other a b = plus (times gain a) (times other b)

-- Two symbols are received, each with its gain. The deviation of their demodulated value, in units of 2^-14, multiplied
-- by 2^29, is the sum of both symbols' leakage, both symbols' transmitted rounding errors, the sample errors
-- (`errors`), and the demodulated value's rounding (`rounding`).
pub record HasFourCauses (gain other : Cpx) (grid second_grid samples : ℕ → Cpx) (k : ℕ) : Type 0 where
  pub errors : Cpx
  pub rounding : Cpx
  pub whole : multiple (2 ^ 29)
      (minus (in_parts (seen_in samples k)) (multiple 64 (with_gains gain other (grid k) (second_grid k))))
      ≡ plus (plus (with_gains gain other (leakage grid k) (leakage second_grid k))
      (with_gains gain other (rounding_sent grid k) (rounding_sent second_grid k))) (plus errors rounding)
  pub errors_small : square errors ≤
      2 ^ 41
      * energy_below useful_length
      (off_by samples (λ n. with_gains gain other (useful_at grid n) (useful_at second_grid n)))
      * (16385 * 16385)
  pub rounding_small : square rounding ≤ 2 ^ 85

-- the deviation of a demodulated value of two symbols always has four causes; if the second gain is 0, there is one
-- symbol
abbrev pub DeviationHasFourCauses : Type 0
DeviationHasFourCauses =
    (gain other : Cpx) (grid second_grid samples : ℕ → Cpx) (k : ℕ) → k < subcarriers →
    HasFourCauses gain other grid second_grid samples k

-- each amplitude of magnitude at most 256 is demodulated through one gain with a deviation up to `most` times the
-- gain's magnitude, if the error energy is at most `quota` times the gain's square
abbrev pub AmplitudeIsSeen : ℕ → ℕ → Type 0
AmplitudeIsSeen quota most =
    (gain : Cpx) (grid samples : ℕ → Cpx) (k : ℕ) → AreAmplitudes grid →
    IsReceived quota gain grid samples → k < subcarriers → IsSeenAs most gain (grid k) (seen_in samples k)

-- the amplitudes that several ports send, each of magnitude at most 256, are demodulated as their sum, with a deviation
-- up to `most` times the gains' root sum square, if the error energy is at most `quota` times the gains' summed squares
abbrev pub AmplitudesAreSeen : ℕ → ℕ → ℕ → Type 0
AmplitudesAreSeen ports quota most =
    (gains : ℕ → Cpx) (grids : ℕ → ℕ → Cpx) (samples : ℕ → Cpx) (k : ℕ) →
    ((port : ℕ) → port < ports → AreAmplitudes (grids port)) →
    IsReceivedBy ports quota gains grids samples → k < subcarriers →
    IsSeenBy ports most gains (λ port. grids port k) (seen_in samples k)

-- the deviation bound for one gain also holds in a recording, for the demodulated values that `observe` computes from
-- sample `start`
abbrev pub AmplitudeIsSeenInRecording : ℕ → ℕ → Type 0
AmplitudeIsSeenInRecording quota most =
    (gain : Cpx) (grid : ℕ → Cpx) (recording : List Sample) (start k : ℕ) → AreAmplitudes grid →
    IsReceived quota gain grid (samples_from recording start) → k < subcarriers →
    IsSeenAs most gain (grid k) (seen recording start k)

-- An error energy up to `quota` times the gain's square causes a deviation up to `most` times the gain's magnitude. In
-- units of 2^31, the magnitudes are at most 97 for the transmit error, `errors` for the sample errors and 1 for
-- rounding. One unit corresponds to 4 in `most`.
pub record AreUnitsOf (quota most : ℕ) : Type 0 where
  pub errors : ℕ
  pub enough : 2 ^ 41 * quota * (16385 * 16385) ≤ (errors * 2 ^ 31) * (errors * 2 ^ 31)
  pub fits : 4 * (97 + errors + 1) ≤ most

-- the deviation bound for one gain holds, also in a recording, for every `quota` and `most` that satisfy `AreUnitsOf`
abbrev pub UnitsAreSeen : Type 0
UnitsAreSeen =
    (quota most : ℕ) → AreUnitsOf quota most → AmplitudeIsSeen quota most × AmplitudeIsSeenInRecording quota most

-- the deviation bound for several ports also holds in a recording, for the demodulated values that `observe` computes
-- from sample `start`
abbrev pub AmplitudesAreSeenInRecording : ℕ → ℕ → ℕ → Type 0
AmplitudesAreSeenInRecording ports quota most =
    (gains : ℕ → Cpx) (grids : ℕ → ℕ → Cpx) (recording : List Sample) (start k : ℕ) →
    ((port : ℕ) → port < ports → AreAmplitudes (grids port)) →
    IsReceivedBy ports quota gains grids (samples_from recording start) → k < subcarriers →
    IsSeenBy ports most gains (λ port. grids port k) (seen recording start k)

-- ---- integer gains, and errors by component

-- if each component of 128 samples deviates by at most `eps`, the error energy, in units of 2^-28, is at most 2^36
-- `eps`^2
abbrev pub ErrorsHaveEnergy : Type 0
ErrorsHaveEnergy =
    (eps : ℕ) (values samples : ℕ → Cpx) → ((n : ℕ) → n < useful_length → IsWithin eps (minus (samples n) (values n))) →
    energy_below useful_length (off_by samples (λ n. in_parts (values n))) ≤ 2 ^ 36 * (eps * eps)

-- if each sample component deviates by at most `eps` from a useful part times an integer gain that is not 0, and `eps`
-- is at most twice the gain's magnitude, the error energy is at most 1024 times the gain's square
abbrev pub WholeGainIsReceived : Type 0
WholeGainIsReceived =
    (eps : ℕ) (gain : Cpx) (grid samples : ℕ → Cpx) → 1 ≤ square gain → eps * eps ≤ 4 * square gain →
    ((n : ℕ) → n < useful_length → IsWithin eps (minus (samples n) (times gain (useful_at grid n)))) →
    IsReceived 1024 (in_parts gain) grid samples

-- reception with an error energy up to `quota` times the gain's square implies reception with any greater quota
abbrev pub IsReceivedByMore : Type 0
IsReceivedByMore =
    (quota more : ℕ) (gain : Cpx) (grid samples : ℕ → Cpx) → quota ≤ more → IsReceived quota gain grid samples →
    IsReceived more gain grid samples
