-- A symbol received over several paths. (own) On each path, direct or reflected, the transmitted signal arrives with
-- the path's gain and with a delay in samples after the first path. A symbol begins with the cyclic prefix, a copy of
-- the end of its useful part, of at least 9 samples (TS 36.211 section 6.12: 144 samples for a DFT size of 2048, so 9
-- for 128). Over a path that is up to 9 samples late, 128 samples therefore hold the complete useful part, cyclically
-- shifted. Several paths are then a channel, with a gain for each subcarrier.
use Rattle.std.specs.Prelude.{◌≡◌, ℕ, ◌+◌, ◌-◌, ◌*◌, ◌%◌, ◌^◌, ◌<◌, ◌≤◌, Bool, List, [], nat_le}
use Rattle.std.specs.Prelude.{if◌then◌else◌, slice_index_or}
use Rattle.finite.specs.Sums.{total_below}
use Rattle.cs_num.specs.declared.Cpx.{Cpx}
use Rattle.cs_num.specs.declared.Sample.{Sample}
use Rattle.cs_num.specs.Complex.{nothing, plus, times, conjugate, square, minus, multiple}
use Rattle.cs_num.specs.Rounding.{rounded}
use Rattle.norms.specs.Magnitudes.{energy_below}
use Rattle.fold128.specs.Tables.{w_at}
use Rattle.fold128.specs.Symbol.{frequency, useful_at}
use Rattle.fold128.specs.Spectrum.{spectrum_at}
use Rattle.crs.specs.Qpsk.{point}
use Rattle.crs.specs.declared.pattern.Pattern.{Pattern}
use Rattle.soft_bits.specs.Soft.{SeenSlot, seen_at, pilot_subcarrier, pattern_symbol, pattern_seen, pattern_sent}
use Rattle.observe.specs.Seen.{seen, seen_symbol}
use Rattle.budget.specs.Received.{AreAmplitudes, IsReceived, off_by, received_of, samples_from, IsSeenNear}
use Rattle.budget.specs.Budget.{seen_in, sending_off}
use Rattle.budget.specs.Through.{Channel, Bounds, LeaveRoom, ArePilotsThrough, IsReadThrough, BothSpeak}
use Rattle.lte_types.specs.Numerology.{subcarriers, useful_length}

-- ---- paths

-- The paths over which a signal arrives: the gain of the first path (`first`), the number of later paths (`later`), and
-- each later path's delay in samples and gain. Gains are in units of 2^-14.
pub record Paths : Type 0 where
  pub first : Cpx
  pub later : ℕ
  pub delay : ℕ → ℕ
  pub gain : ℕ → Cpx

-- 128 samples, cyclically shifted to later samples by `delay`
abbrev pub turned_round : ℕ → (ℕ → Cpx) → ℕ → Cpx
turned_round delay part n = part ((n + (useful_length - delay)) % useful_length)

-- sample `n` of a useful part that is received over several paths
abbrev pub received_over : Paths → (ℕ → Cpx) → ℕ → Cpx
received_over paths part n =
    plus (times paths.first (part n))
    (received_of paths.later paths.gain (λ path. turned_round (paths.delay path) part n))

-- 128 samples are received over several paths from a symbol with elements `grid`. The error energy is at most `quota`
-- times the square of the first path's gain, whose magnitude is at least 1 (2^14 in units of 2^-14).
pub record IsReceivedOver (quota : ℕ) (paths : Paths) (grid samples : ℕ → Cpx) : Type 0 where
  pub sounds : 2 ^ 28 ≤ square paths.first
  pub quiet : energy_below useful_length (off_by samples (received_over paths (useful_at grid))) ≤
      quota * square paths.first

-- ---- the cyclic prefix

-- a sequence holds the last 9 samples of a useful part from index `place`, followed by the useful part
pub record HasPrefix (part : ℕ → Cpx) (place : ℕ) (sent : ℕ → Cpx) : Type 0 where
  pub before : (n : ℕ) → n < 9 → sent (place + n) ≡ part (119 + n)
  pub useful : (n : ℕ) → n < useful_length → sent (place + 9 + n) ≡ part n

-- sample `i` of a transmitted sequence as it arrives over several paths
abbrev pub arriving : Paths → (ℕ → Cpx) → ℕ → Cpx
arriving paths sent i =
    plus (times paths.first (sent i)) (received_of paths.later paths.gain (λ path. sent (i - paths.delay path)))

-- paths that are at most 9 samples late shift a useful part cyclically, if its cyclic prefix is in front of it
abbrev pub PrefixTurnsRound : Type 0
PrefixTurnsRound =
    (paths : Paths) (part sent : ℕ → Cpx) (place n : ℕ) →
    ((path : ℕ) → path < paths.later → paths.delay path ≤ 9) → HasPrefix part place sent → n < useful_length →
    arriving paths sent (place + 9 + n) ≡ received_over paths part n

-- If the delays of later paths are at most 9 samples and the first gain has a magnitude of at least 1, samples near a
-- transmitted symbol with its cyclic prefix are received over the paths. The error energy is at most `quota` times the
-- first gain's square.
abbrev pub ArrivingIsReceived : Type 0
ArrivingIsReceived =
    (quota : ℕ) (paths : Paths) (grid sent samples : ℕ → Cpx) (place : ℕ) →
    ((path : ℕ) → path < paths.later → paths.delay path ≤ 9) → HasPrefix (useful_at grid) place sent →
    2 ^ 28 ≤ square paths.first →
    energy_below useful_length (off_by samples (λ n. arriving paths sent (place + 9 + n))) ≤
    quota * square paths.first →
    IsReceivedOver quota paths grid samples

-- ---- faint later paths

-- the weight with which the gain bound of a path with delay `delay` counts in `AreFaint`; beyond 7 samples it grows
-- with the delay, since the channel then differs more between subcarriers
abbrev pub weight : ℕ → ℕ
weight delay = if nat_le delay 7 then 17 else 2 * delay + 3

-- Later paths are faint: each is 1 to 9 samples late, and `magnitudes` bounds the magnitudes of their gains. The
-- bounds, each times its path's weight, add up to at most the magnitude of the first gain.
pub record AreFaint (magnitudes : ℕ → ℕ) (paths : Paths) : Type 0 where
  pub late : (path : ℕ) → path < paths.later → 1 ≤ paths.delay path
  pub near : (path : ℕ) → path < paths.later → paths.delay path ≤ 9
  pub bounded : (path : ℕ) → path < paths.later → square (paths.gain path) ≤ magnitudes path * magnitudes path
  pub faint :
      total_below paths.later (λ path. weight (paths.delay path) * magnitudes path)
      * total_below paths.later (λ path. weight (paths.delay path) * magnitudes path) ≤
      square paths.first

-- the case of one path, with no later paths
abbrev pub only_path : Cpx → Paths
only_path gain = record { first = gain; later = 0; delay = λ path. 0; gain = λ path. nothing }

-- reception with one gain is reception over one path; the later paths, of which there are none, are faint
abbrev pub OnePathIsReceivedOver : Type 0
OnePathIsReceivedOver =
    (quota : ℕ) (gain : Cpx) (grid samples : ℕ → Cpx) → IsReceived quota gain grid samples →
    IsReceivedOver quota (only_path gain) grid samples × AreFaint (λ path. 0) (only_path gain)

-- ---- the channel

-- the factor that `delay` samples cause at subcarrier `k`: 16384 times a phase rotation
abbrev pub delayed : ℕ → ℕ → Cpx
delayed delay k = conjugate (w_at (frequency k * delay))

-- 16384 times the channel's gain at subcarrier `k`, before rounding
abbrev pub whole_channel : Paths → ℕ → Cpx
whole_channel paths k =
    plus (multiple 16384 paths.first) (received_of paths.later paths.gain (λ path. delayed (paths.delay path) k))

-- the channel's gain at subcarrier `k`: the sum of the paths' gains, each rotated by the phase of its delay
unfoldable pub channel_over : Paths → ℕ → Cpx
channel_over paths k = rounded (whole_channel paths k) 14

-- the channel of several paths, equal for all symbols
abbrev pub over : Paths → Channel
over paths symbol k = channel_over paths k

-- ---- demodulation

-- for elements of magnitude up to 256, the demodulated value of a cyclically shifted useful part, unrounded and times
-- 16384, is the useful part's own value times the delay's phase rotation, within 25 * 2^28; the deviation arises
-- because the table is not exactly multiplicative
abbrev pub TurnedPartIsSeen : Type 0
TurnedPartIsSeen =
    (grid : ℕ → Cpx) (delay k : ℕ) → AreAmplitudes grid → delay ≤ useful_length →
    square (minus (multiple 16384 (spectrum_at (turned_round delay (useful_at grid)) k))
    (times (delayed delay k) (spectrum_at (useful_at grid) k))) ≤
    (25 * 2 ^ 28) * (25 * 2 ^ 28)

-- 16384 times the transmit error at subcarrier `k`: 2^31 times the unrounded demodulated value of the samples, less
-- 2^35 times `number`
abbrev pub turned_off : (ℕ → Cpx) → Cpx → ℕ → Cpx
turned_off sent number k = minus (multiple (2 ^ 31) (spectrum_at sent k)) (multiple (2 ^ 35) number)

-- for elements of magnitude up to 256, the transmit error of a cyclically shifted useful part, times 16384, has a
-- magnitude up to 123 * 2^45; the amplitude is rotated by the delay's phase
abbrev pub TurnedSendingIsSmall : Type 0
TurnedSendingIsSmall =
    (grid : ℕ → Cpx) (delay k : ℕ) → AreAmplitudes grid → delay ≤ useful_length → k < subcarriers →
    square (turned_off (turned_round delay (useful_at grid)) (times (delayed delay k) (grid k)) k) ≤
    (123 * 2 ^ 45) * (123 * 2 ^ 45)

-- over faint later paths, the transmit error is at most 106 * 2^31 times the first gain in magnitude, if the elements
-- have magnitudes up to 256 and the first gain's magnitude is at least 1
abbrev pub SendingOverIsSmall : Type 0
SendingOverIsSmall =
    (magnitudes : ℕ → ℕ) (paths : Paths) (grid : ℕ → Cpx) (k : ℕ) → AreAmplitudes grid → AreFaint magnitudes paths →
    2 ^ 28 ≤ square paths.first → k < subcarriers →
    square (sending_off (received_over paths (useful_at grid)) (times (channel_over paths k) (grid k)) k) ≤
    (106 * 2 ^ 31) * (106 * 2 ^ 31) * square paths.first

-- over faint later paths, each amplitude of magnitude at most 256 is demodulated through the paths' channel with a
-- deviation up to 1880 times the first gain's magnitude, if the error energy is at most 1024 times the first gain's
-- square
abbrev pub AmplitudeIsSeenOver : Type 0
AmplitudeIsSeenOver =
    (magnitudes : ℕ → ℕ) (paths : Paths) (grid samples : ℕ → Cpx) (k : ℕ) → AreAmplitudes grid →
    AreFaint magnitudes paths → IsReceivedOver 1024 paths grid samples → k < subcarriers →
    IsSeenNear 1880 (square paths.first) (times (channel_over paths k) (grid k)) (seen_in samples k)

-- over faint later paths, `observe` demodulates each amplitude (up to 256) of the symbol whose useful part begins at
-- sample `start` with a deviation of at most 1880 times the first gain's magnitude, if the error energy is at most 1024
-- times the first gain's square
abbrev pub AmplitudeIsSeenOverInRecording : Type 0
AmplitudeIsSeenOverInRecording =
    (magnitudes : ℕ → ℕ) (paths : Paths) (grid : ℕ → Cpx) (recording : List Sample) (start k : ℕ) →
    AreAmplitudes grid → AreFaint magnitudes paths → IsReceivedOver 1024 paths grid (samples_from recording start) →
    k < subcarriers →
    IsSeenNear 1880 (square paths.first) (times (channel_over paths k) (grid k)) (seen recording start k)

-- ---- a slot over faint paths

-- The bounds of a channel of faint later paths. In thousandths of the first gain, the channel is at least 940, and at
-- the pilots at most 1060. In thousandths of the channel itself, the line through the pilots deviates from the channel
-- by at most 43.
abbrev pub path_bounds : Bounds
path_bounds = record { most = 1880; least = 940; mean = 1060; bend = 43 }

-- the bounds of faint later paths leave room for soft values of magnitude 1
abbrev pub PathsLeaveRoom : Type 0
PathsLeaveRoom = LeaveRoom 1 path_bounds

-- Pilots demodulated through the channel of faint later paths are within `path_bounds`, and the channel at each
-- resource element is strong enough and close enough to the line through the pilots to decode soft values.
abbrev pub PathsAreThrough : Type 0
PathsAreThrough =
    (magnitudes : ℕ → ℕ) (paths : Paths) (pattern : Pattern) (slot : SeenSlot) → AreFaint magnitudes paths →
    2 ^ 28 ≤ square paths.first →
    ((i : ℕ) → i < 24 →
    IsSeenNear 1880 (square paths.first)
    (times (channel_over paths (pilot_subcarrier slot.identity i)) (pattern_sent pattern slot.identity slot.number i))
    (pattern_seen pattern slot i)) →
    ArePilotsThrough path_bounds (square paths.first) pattern (over paths) slot

abbrev pub PathsAreRead : Type 0
PathsAreRead =
    (magnitudes : ℕ → ℕ) (paths : Paths) (pattern : Pattern) (slot : SeenSlot) (symbol k : ℕ) →
    AreFaint magnitudes paths → 2 ^ 28 ≤ square paths.first → k < subcarriers →
    IsReadThrough path_bounds (square paths.first) pattern (over paths) slot symbol k

-- The first `count` symbols of a slot are received in a recording over several paths, symbol `l` from sample `starts
-- l`. Each error energy is at most 1024 times the first gain's square. The symbols contain the reference signals of the
-- slot's identity and number, at the pattern's positions.
pub record IsSlotReceivedOver (paths : Paths) (pattern : Pattern) (count : ℕ) (recording : List Sample)
    (starts : ℕ → ℕ) (grids : ℕ → ℕ → Cpx) (slot : SeenSlot) : Type 0 where
  pub seen : (l : ℕ) → l < count → slice_index_or slot.symbols l [] ≡ seen_symbol recording (starts l)
  pub amplitudes : (l : ℕ) → l < count → AreAmplitudes (grids l)
  pub received : (l : ℕ) → l < count → IsReceivedOver 1024 paths (grids l) (samples_from recording (starts l))
  pub references : (i : ℕ) → i < 24 →
      grids (pattern_symbol pattern slot.identity i) (pilot_subcarrier slot.identity i)
      ≡ pattern_sent pattern slot.identity slot.number i

-- if a slot's first `count` symbols, with both of the pattern's reference-signal symbols, are received over paths whose
-- later ones are faint, the two soft values of each resource element with two bits in these symbols support the bits
abbrev pub SlotOverIsHeard : Type 0
SlotOverIsHeard =
    (magnitudes : ℕ → ℕ) (paths : Paths) (pattern : Pattern) (count : ℕ) (recording : List Sample) (starts : ℕ → ℕ)
    (grids : ℕ → ℕ → Cpx) (slot : SeenSlot) (symbol k : ℕ) (first second : Bool) → AreFaint magnitudes paths →
    pattern.later < count → IsSlotReceivedOver paths pattern count recording starts grids slot → symbol < count →
    k < subcarriers → grids symbol k ≡ point first second →
    BothSpeak 1 pattern slot k first second (seen_at slot symbol k)
