-- The soft values of a slot that is received with one gain and errors within a stated bound: each has the sign of its
-- sent bit. (own)
use Rattle.std.specs.Prelude.{◌≡◌, ℕ, ◌^◌, ◌<◌, ◌≤◌, Bool, List, [], slice_index_or, ℤ, pos}
use Rattle.cs_num.specs.declared.Cpx.{Cpx}
use Rattle.cs_num.specs.declared.Sample.{Sample}
use Rattle.cs_num.specs.Complex.{times, conjugate, square}
use Rattle.cs_bits.specs.Signs.{Supports}
use Rattle.crs.specs.Qpsk.{point}
use Rattle.crs.specs.declared.pattern.Pattern.{Pattern}
use Rattle.crs.specs.Reference.{port_0}
use Rattle.observe.specs.Seen.{seen_symbol}
use Rattle.soft_bits.specs.Soft.{SeenSlot, seen_at, pilot_subcarrier, pattern_symbol, pattern_seen, pattern_sent}
use Rattle.soft_bits.specs.Soft.{pattern_channel, pattern_energy, soft_pair, soft_values}
use Rattle.budget.specs.Received.{AreAmplitudes, IsReceived, IsSeenAs, samples_from}
use Rattle.lte_types.specs.Numerology.{subcarriers}

-- The two soft values of a resource element have the signs of the bits `first` and `second`, and magnitudes at least
-- `least`.
pub record SupportBoth (least : ℕ) (first second : Bool) (values : List ℤ) : Type 0 where
  pub re : Supports least first (slice_index_or values 0 (pos 0))
  pub im : Supports least second (slice_index_or values 1 (pos 0))

-- The 24 pilots of a slot, in the port's pattern, are demodulated with one gain, which is in units of 2^-14 and has a
-- magnitude of at least 1. Each deviates by at most `most` times the gain's magnitude.
pub record ArePatternSeen (most : ℕ) (pattern : Pattern) (gain : Cpx) (slot : SeenSlot) : Type 0 where
  pub sounds : 2 ^ 28 ≤ square gain
  pub pilot : (i : ℕ) → i < 24 →
      IsSeenAs most gain (pattern_sent pattern slot.identity slot.number i) (pattern_seen pattern slot i)

-- the 24 pilots of a slot of port 0 with the normal cyclic prefix are demodulated with one gain
abbrev pub ArePilotsSeen : ℕ → Cpx → SeenSlot → Type 0
ArePilotsSeen most gain slot = ArePatternSeen most port_0 gain slot

-- a law: if a QPSK symbol and the slot's pilots are demodulated with one gain, each with a deviation up to `most` times
-- the gain's magnitude, the symbol's soft values have its bits' signs and magnitudes of at least `magnitude`
abbrev pub SeenPairSupportsBits : ℕ → ℕ → Type 0
SeenPairSupportsBits most magnitude =
    (pattern : Pattern) (gain : Cpx) (slot : SeenSlot) (seen : Cpx) (k : ℕ) (first second : Bool) →
    ArePatternSeen most pattern gain slot →
    IsSeenAs most gain (point first second) seen →
    SupportBoth magnitude first second
    (soft_pair (times seen (conjugate (pattern_channel pattern slot k))) (pattern_energy pattern slot))

-- a law: if a resource element with two bits and the slot's pilots are demodulated with one gain, each with a deviation
-- up to `most` times the gain's magnitude, the element's soft values have the bits' signs and magnitudes of at least
-- `magnitude`
abbrev pub ValuesSupportBits : ℕ → ℕ → Type 0
ValuesSupportBits most magnitude =
    (gain : Cpx) (slot : SeenSlot) (symbol k : ℕ) (first second : Bool) → ArePilotsSeen most gain slot →
    IsSeenAs most gain (point first second) (seen_at slot symbol k) →
    SupportBoth magnitude first second (soft_values slot symbol k)

-- The slot's first `count` symbols are received with one gain, symbol `l` from sample `starts l`, and contain the
-- reference signals of the slot's identity and number. The error energy of each symbol is at most `quota` times the
-- gain's square.
pub record IsPatternReceived (quota : ℕ) (pattern : Pattern) (count : ℕ) (recording : List Sample) (starts : ℕ → ℕ)
    (grids : ℕ → ℕ → Cpx) (slot : SeenSlot) : Type 0 where
  pub gain : Cpx
  pub seen : (l : ℕ) → l < count → slice_index_or slot.symbols l [] ≡ seen_symbol recording (starts l)
  pub amplitudes : (l : ℕ) → l < count → AreAmplitudes (grids l)
  pub received : (l : ℕ) → l < count → IsReceived quota gain (grids l) (samples_from recording (starts l))
  pub references : (i : ℕ) → i < 24 →
      grids (pattern_symbol pattern slot.identity i) (pilot_subcarrier slot.identity i)
      ≡ pattern_sent pattern slot.identity slot.number i

-- a slot with the normal cyclic prefix is received with one gain: each of its seven symbols has an error energy up to
-- 1800 times the gain's square, and they contain port 0's reference signals
abbrev pub IsSlotReceived : List Sample → (ℕ → ℕ) → (ℕ → ℕ → Cpx) → SeenSlot → Type 0
IsSlotReceived recording starts grids slot = IsPatternReceived 1800 port_0 7 recording starts grids slot

-- in each resource element of `grids` that carries two bits, the slot's soft values have the bits' signs and magnitudes
-- of at least `magnitude`
abbrev pub SpeaksFor : ℕ → (ℕ → ℕ → Cpx) → SeenSlot → Type 0
SpeaksFor magnitude grids slot = (symbol k : ℕ) (first second : Bool) → symbol < 7 → k < subcarriers →
    grids symbol k ≡ point first second → SupportBoth magnitude first second (soft_values slot symbol k)

-- the slot has correct soft values: each has the sign of the bit that `grids` carries
abbrev pub IsSlotHeard : (ℕ → ℕ → Cpx) → SeenSlot → Type 0
IsSlotHeard grids slot = SpeaksFor 1 grids slot

-- a law: a slot has correct soft values if it is received with one gain, and each symbol's error energy is at most 1800
-- times the gain's square
abbrev pub ReceivedSlotIsHeard : Type 0
ReceivedSlotIsHeard = (recording : List Sample) (starts : ℕ → ℕ) (grids : ℕ → ℕ → Cpx) (slot : SeenSlot) →
    IsSlotReceived recording starts grids slot → IsSlotHeard grids slot

-- a law: if a slot is received with one gain, and each symbol's error energy is at most 1024 times the gain's square,
-- the slot's soft values have the bits' signs and magnitudes of at least 8
abbrev pub QuietSlotIsHeard : Type 0
QuietSlotIsHeard = (recording : List Sample) (starts : ℕ → ℕ) (grids : ℕ → ℕ → Cpx) (slot : SeenSlot) →
    IsPatternReceived 1024 port_0 7 recording starts grids slot → SpeaksFor 8 grids slot
