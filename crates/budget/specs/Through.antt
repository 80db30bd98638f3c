-- The demodulation of a slot through a channel, whose gain may differ between resource elements, and the resulting soft
-- values. (own; the reference signals are in TS 36.211 section 6.10.1)
use Rattle.std.specs.Prelude.{ℕ, ◌+◌, ◌*◌, ◌%◌, ◌<◌, ◌≤◌, Bool}
use Rattle.cs_num.specs.declared.Cpx.{Cpx}
use Rattle.cs_num.specs.Complex.{times, conjugate, square, minus, multiple}
use Rattle.norms.specs.Magnitudes.{energy_below}
use Rattle.cs_bits.specs.Signs.{Supports}
use Rattle.crs.specs.Qpsk.{point}
use Rattle.crs.specs.declared.pattern.Pattern.{Pattern}
use Rattle.soft_bits.specs.Estimate.{estimate}
use Rattle.soft_bits.specs.Soft.{SeenSlot, pilot_subcarrier, pattern_symbol, pattern_seen, pattern_sent}
use Rattle.soft_bits.specs.Soft.{pattern_channel, pattern_energy, soft_value}
use Rattle.budget.specs.Received.{IsSeenAs, IsSeenNear}

-- ---- a channel

-- a channel: a gain in units of 2^-14 for each symbol and subcarrier of a slot
abbrev pub Channel : Type 0
Channel = ℕ → ℕ → Cpx

-- the channel's gain at pilot `i` in a slot's pattern
abbrev pub at_pilot : Pattern → SeenSlot → Channel → ℕ → Cpx
at_pilot pattern slot channel i = channel (pattern_symbol pattern slot.identity i) (pilot_subcarrier slot.identity i)

-- Bounds relative to some magnitude. Demodulated values deviate by at most `most` times the magnitude. In thousandths
-- of the magnitude, the channel is at least `least` where values are decoded, and its root mean square over the pilots
-- is at most `mean`. In thousandths of the channel where values are decoded, the line through the channel's gains at
-- the pilots deviates by at most `bend`.
pub record Bounds : Type 0 where
  pub most : ℕ
  pub least : ℕ
  pub mean : ℕ
  pub bend : ℕ

-- the 24 pilots in a slot's pattern are demodulated through a channel within bounds relative to a magnitude whose
-- square is `n`
pub record ArePilotsThrough (bounds : Bounds) (n : ℕ) (pattern : Pattern) (channel : Channel) (slot : SeenSlot) :
    Type 0 where
  pub sounds : 1 ≤ n
  pub pilot : (i : ℕ) → i < 24 →
      IsSeenNear bounds.most n
      (times (at_pilot pattern slot channel i) (pattern_sent pattern slot.identity slot.number i))
      (pattern_seen pattern slot i)
  pub mean : 1000000 * energy_below 24 (at_pilot pattern slot channel) ≤ bounds.mean * bounds.mean * (24 * n)

-- A resource element can be decoded: the channel is strong enough there (`least`), and close enough to the line through
-- the pilots (`straight`, which compares three times the channel).
pub record IsReadThrough (bounds : Bounds) (n : ℕ) (pattern : Pattern) (channel : Channel) (slot : SeenSlot)
    (symbol k : ℕ) : Type 0 where
  pub least : bounds.least * bounds.least * n ≤ 1000000 * square (channel symbol k)
  pub straight :
      1000000 * square (minus (estimate (at_pilot pattern slot channel) (slot.identity % 3) k)
      (multiple 3 (channel symbol k))) ≤
      9 * (bounds.bend * bounds.bend) * square (channel symbol k)

-- ---- the room that the bounds leave

-- The numbers in this section are in units of the channel at the resource element. To make them integers, the
-- demodulated value is multiplied by `least`, and the channel estimate, which is three times 64 * 16200 times the
-- channel, by 1000 * `least`.

-- the deviation of the channel estimate: the line's bend, plus the pilots' deviation
abbrev pub estimate_off : Bounds → ℕ
estimate_off bounds = 3110400 * (bounds.bend * bounds.least) + 384000000 * bounds.most

-- the deviation of the product of demodulated value and channel estimate
abbrev pub product_off : Bounds → ℕ
product_off bounds =
    8192 * bounds.least * estimate_off bounds
    + 1000 * bounds.most * (3110400000 * bounds.least + estimate_off bounds)

-- the maximum energy of the pilots, in the units of the product
abbrev pub energy_most : Bounds → ℕ
energy_most bounds = 24000 * ((8192 * bounds.mean + 1000 * bounds.most) * (8192 * bounds.mean + 1000 * bounds.most))

-- The bounds leave room for soft values of `magnitude`, 1 to 127: six times the main part of a component exceeds the
-- magnitude times the maximum pilot energy, plus six times the deviation of the product.
pub record LeaveRoom (magnitude : ℕ) (bounds : Bounds) : Type 0 where
  pub some : 1 ≤ magnitude
  pub high : magnitude ≤ 127
  pub reads : 1 ≤ bounds.least
  pub room :
      magnitude * energy_most bounds + 6 * product_off bounds < 540 * (199065600000 * (bounds.least * bounds.least))

-- given a demodulated value `seen` at subcarrier `k`, both soft values support the bits `first` and `second` with
-- `magnitude`
pub record BothSpeak (magnitude : ℕ) (pattern : Pattern) (slot : SeenSlot) (k : ℕ) (first second : Bool) (seen : Cpx) :
    Type 0 where
  pub re : Supports magnitude first
      (soft_value (times seen (conjugate (pattern_channel pattern slot k))).re (pattern_energy pattern slot))
  pub im : Supports magnitude second
      (soft_value (times seen (conjugate (pattern_channel pattern slot k))).im (pattern_energy pattern slot))

-- if a resource element that carries two bits is demodulated through a channel and can be decoded, its soft values
-- support the bits with each magnitude for which the bounds leave room
abbrev pub ValuesSpeakThrough : Type 0
ValuesSpeakThrough =
    (magnitude n : ℕ) (bounds : Bounds) (pattern : Pattern) (channel : Channel) (slot : SeenSlot) (symbol k : ℕ)
    (first second : Bool) (seen : Cpx) → LeaveRoom magnitude bounds →
    ArePilotsThrough bounds n pattern channel slot → IsReadThrough bounds n pattern channel slot symbol k →
    IsSeenNear bounds.most n (times (channel symbol k) (point first second)) seen →
    BothSpeak magnitude pattern slot k first second seen

-- ---- one gain

-- the channel with one gain for all resource elements
abbrev pub level : Cpx → Channel
level gain symbol k = gain

-- The bounds of one gain, when demodulated values deviate by at most `most` times the gain's magnitude. With `most` =
-- 2316 (`level_bounds`), the deviation is 2316 / 64, less than 37 amplitude units.
abbrev pub level_within : ℕ → Bounds
level_within most = record { most = most; least = 1000; mean = 1000; bend = 0 }

abbrev pub level_bounds : Bounds
level_bounds = level_within 2316

-- the bounds of one gain leave room for soft values of magnitude 1, if values deviate by at most 2316 / 64 (about 36.2)
-- amplitude units
abbrev pub OneGainLeavesRoom : Type 0
OneGainLeavesRoom = LeaveRoom 1 level_bounds

-- the bounds of one gain leave room for soft values of magnitude 8, if values deviate by at most 30 amplitude units
abbrev pub QuietGainLeavesRoom : Type 0
QuietGainLeavesRoom = LeaveRoom 8 (level_within 1920)

-- Pilots demodulated with one gain are demodulated through the channel with that gain everywhere, and each resource
-- element can be decoded.
abbrev pub OneGainIsThrough : Type 0
OneGainIsThrough =
    (most : ℕ) (pattern : Pattern) (gain : Cpx) (slot : SeenSlot) → 1 ≤ square gain →
    ((i : ℕ) → i < 24 →
    IsSeenAs most gain (pattern_sent pattern slot.identity slot.number i) (pattern_seen pattern slot i)) →
    ArePilotsThrough (level_within most) (square gain) pattern (level gain) slot

abbrev pub OneGainIsRead : Type 0
OneGainIsRead =
    (most : ℕ) (pattern : Pattern) (gain : Cpx) (slot : SeenSlot) (symbol k : ℕ) →
    IsReadThrough (level_within most) (square gain) pattern (level gain) slot symbol k
