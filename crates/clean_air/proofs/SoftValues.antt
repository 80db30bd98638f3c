-- The soft values of a received slot have the signs of the sent bits: one gain is a channel that leaves room for them.
use Rattle.std.proofs.Common.{◌≡◌, ℕ, zero, suc, ◌+◌, ◌*◌, ◌^◌, ◌<◌, ◌≤◌, arith, ap, sym, ◌∙◌, subst, Bool, true, false, List, []}
use Rattle.std.specs.Prelude.{if◌then◌else◌, slice_index_or}
use Rattle.finite.specs.Sums.{total_below}
use Rattle.finite.proofs.Lists.{values_below_at}
use Rattle.cs_num.specs.declared.Cpx.{Cpx}
use Rattle.cs_num.specs.declared.Sample.{Sample}
use Rattle.cs_num.specs.Complex.{nothing, square, value_at}
use Rattle.crs.specs.declared.pattern.Pattern.{Pattern}
use Rattle.crs.specs.Reference.{port_0, is_pattern_place}
use Rattle.observe.specs.Seen.{seen, seen_symbol}
use Rattle.soft_bits.specs.Soft.{SeenSlot, seen_at, pilot_subcarrier, pattern_symbol, pattern_seen, pattern_sent, pattern_energy, soft_values}
use Rattle.budget.specs.Received.{AreAmplitudes, IsReceived, IsSeenAs, samples_from}
use Rattle.budget.specs.Budget.{AmplitudeIsSeenInRecording}
use Rattle.budget.specs.Through.{level, level_within, LeaveRoom}
use Rattle.clean_air.specs.Values.{ArePatternSeen, SeenPairSupportsBits, IsPatternReceived, ValuesSupportBits, SpeaksFor, ReceivedSlotIsHeard, QuietSlotIsHeard}
use Rattle.budget.proofs.Pilots.{IsPilot, pilot-square}
use Rattle.budget.proofs.Seen.{amplitude_is_seen_in_recording, quiet_amplitude_is_seen_in_recording}
use Rattle.budget.proofs.Through.{values_speak_through, one_gain_leaves_room, quiet_gain_leaves_room, one_gain_is_through, one_gain_is_read}
use Rattle.clean_air.proofs.Estimates.{clean_pilots}

-- ---- a resource element

pair_supports_bits : (most size : ℕ) → LeaveRoom size (level_within most) → SeenPairSupportsBits most size
pair_supports_bits most size leave pattern gain slot z k first second seen here =
    let both = values_speak_through size (square gain) (level_within most) pattern (level gain) slot 0 k first second z leave
    (one_gain_is_through most pattern gain slot (some (square gain) seen.sounds) seen.pilot) (one_gain_is_read most pattern gain slot 0 k) here in
    record { re = both.re; im = both.im }
  where
    some : (n : ℕ) → 2 ^ 28 ≤ n → 1 ≤ n
    some n h = omega (arith, h)

pub seen_pair_supports_bits : SeenPairSupportsBits 2316 1
seen_pair_supports_bits = pair_supports_bits 2316 1 one_gain_leaves_room

pub quiet_pair_supports_bits : SeenPairSupportsBits 1920 8
quiet_pair_supports_bits = pair_supports_bits 1920 8 quiet_gain_leaves_room

-- port 0 with the normal cyclic prefix
place_supports_bits : (most size : ℕ) → SeenPairSupportsBits most size → ValuesSupportBits most size
unfolding soft_values
place_supports_bits most size supports gain slot symbol k first second seen here = supports port_0 gain slot (seen_at slot symbol k) k first second seen here

pub values_support_bits : ValuesSupportBits 2316 1
values_support_bits = place_supports_bits 2316 1 seen_pair_supports_bits

pub quiet_values_support_bits : ValuesSupportBits 1920 8
quiet_values_support_bits = place_supports_bits 1920 8 quiet_pair_supports_bits

-- ---- the energy of the pilots, with one gain

-- a sum e of the pilots' squares, in units of 2^-14, is not far below 4096 * 16200 n if each pilot is off by at most t
-- times its magnitude, where n is the gain's square: the bound for a weight of 3
pub record IsPilotEnergy (t n e : ℕ) : Type 0 where
  pub near : 49766400 * n ≤ 2 ^ 28 * e + 3 * (t * t * n)

one_pilot : (t : ℕ) (g d p : Cpx) → IsPilot t (square g) g d p → IsPilotEnergy t (square g) (square p)
one_pilot t g d p is = record { near = thirds (square g) (square p) (pilot-square 3 t (square g) g d p is).least }
  where
    thirds : (n e : ℕ) → 3 * (66355200 * n) ≤ (3 + 1) * (2 ^ 28 * e) + 3 * (3 + 1) * (t * t * n) → 49766400 * n ≤ 2 ^ 28 * e + 3 * (t * t * n)
    thirds n e low = omega (arith, low)

of_pilots : (t n count : ℕ) (f : ℕ → ℕ) → ((i : ℕ) → i < count → IsPilotEnergy t n (f i)) → IsPilotEnergy t (count * n) (total_below count f)
unfolding total_below
of_pilots t n zero f each = record { near = omega arith }
of_pilots t n (suc count) f each =
    let before = of_pilots t n count f (λ i l. each i (omega (arith, l))) in
    let here = each count (omega arith) in
    record { near = omega (arith, before.near, here.near) }

pub energy-near : (most : ℕ) (pattern : Pattern) (gain : Cpx) (slot : SeenSlot) → ArePatternSeen most pattern gain slot → IsPilotEnergy most (24 * square gain) (pattern_energy pattern slot)
unfolding pattern_energy
energy-near most pattern gain slot seen =
    of_pilots most (square gain) 24 (λ i. square (pattern_seen pattern slot i))
    (λ i l. one_pilot most gain (pattern_sent pattern slot.identity slot.number i) (pattern_seen pattern slot i) (clean_pilots most pattern gain slot seen i l))

-- ---- in a recording

pub read_symbol : (recording : List Sample) (start k : ℕ) → k < 72 → value_at (seen_symbol recording start) k ≡ seen recording start k
unfolding seen_symbol
read_symbol recording start k l = values_below_at (seen recording start) 72 k nothing l

-- a resource element of an observed symbol
pub place_shown : (recording : List Sample) (start : ℕ) (slot : SeenSlot) (symbol k : ℕ) → slice_index_or slot.symbols symbol [] ≡ seen_symbol recording start → k < 72 →
    seen recording start k ≡ seen_at slot symbol k
place_shown recording start slot symbol k shown inside = sym (ap (λ (xs : List Cpx). value_at xs k) shown ∙ read_symbol recording start k inside)

-- a resource element of a received symbol is observed with the symbol's gain
pub place_seen : (quota most : ℕ) → AmplitudeIsSeenInRecording quota most → (recording : List Sample) (start : ℕ) (gain : Cpx) (grid : ℕ → Cpx) (slot : SeenSlot) (symbol k : ℕ) →
    slice_index_or slot.symbols symbol [] ≡ seen_symbol recording start → AreAmplitudes grid → IsReceived quota gain grid (samples_from recording start) → k < 72 →
    IsSeenAs most gain (grid k) (seen_at slot symbol k)
place_seen quota most are_seen recording start gain grid slot symbol k shown amplitudes received inside =
    subst (λ (z : Cpx). IsSeenAs most gain (grid k) z) (place_shown recording start slot symbol k shown inside)
    (are_seen gain grid recording start k amplitudes received inside)

-- the pilots are in the first symbol and a later one
pub symbol-few : (count : ℕ) (pattern : Pattern) (identity i : ℕ) → pattern.later < count → pattern_symbol pattern identity i < count
unfolding pattern_symbol
symbol-few count pattern identity i later = few (is_pattern_place pattern identity 0 (pilot_subcarrier identity i))
  where
    few : (b : Bool) → (if b then 0 else pattern.later) < count
    few true = omega (arith, later)
    few false = later

-- the pilots are observed with one gain if each resource element of their symbols is
pub pilots_from_places : (most : ℕ) (pattern : Pattern) (count : ℕ) (gain : Cpx) (grids : ℕ → ℕ → Cpx) (slot : SeenSlot) → pattern.later < count → 2 ^ 28 ≤ square gain →
    ((i : ℕ) → i < 24 → grids (pattern_symbol pattern slot.identity i) (pilot_subcarrier slot.identity i) ≡ pattern_sent pattern slot.identity slot.number i) →
    ((symbol k : ℕ) → symbol < count → k < 72 → IsSeenAs most gain (grids symbol k) (seen_at slot symbol k)) → ArePatternSeen most pattern gain slot
unfolding pattern_seen
pilots_from_places most pattern count gain grids slot later sounds references places = record {
  sounds = sounds;
  pilot = λ i l. subst (λ (z : Cpx). IsSeenAs most gain z (seen_at slot (pattern_symbol pattern slot.identity i) (pilot_subcarrier slot.identity i))) (references i l)
      (places (pattern_symbol pattern slot.identity i) (pilot_subcarrier slot.identity i) (symbol-few count pattern slot.identity i later) (omega (arith, l)));
}

module _ (quota most : ℕ) (are_seen : AmplitudeIsSeenInRecording quota most) (pattern : Pattern) (count : ℕ) (recording : List Sample) (starts : ℕ → ℕ) (grids : ℕ → ℕ → Cpx) (slot : SeenSlot)
    (is : IsPatternReceived quota pattern count recording starts grids slot) where
  -- each resource element of a received slot is observed with its gain
  pub pattern_place_seen : (symbol k : ℕ) → symbol < count → k < 72 → IsSeenAs most is.gain (grids symbol k) (seen_at slot symbol k)
  pattern_place_seen symbol k few inside =
      place_seen quota most are_seen recording (starts symbol) is.gain (grids symbol) slot symbol k (is.seen symbol few) (is.amplitudes symbol few) (is.received symbol few) inside

  -- the pilots are observed with its gain if both of their symbols are present
  pub pattern_pilots_seen : pattern.later < count → ArePatternSeen most pattern is.gain slot
  pattern_pilots_seen later =
      pilots_from_places most pattern count is.gain grids slot later (is.received 0 (omega (arith, later))).sounds is.references pattern_place_seen

received_speaks : (quota most size : ℕ) → AmplitudeIsSeenInRecording quota most → ValuesSupportBits most size → (recording : List Sample) (starts : ℕ → ℕ) (grids : ℕ → ℕ → Cpx) (slot : SeenSlot) →
    IsPatternReceived quota port_0 7 recording starts grids slot → SpeaksFor size grids slot
received_speaks quota most size are_seen support recording starts grids slot is symbol k first second few inside same =
    support is.gain slot symbol k first second
    (pattern_pilots_seen quota most are_seen port_0 7 recording starts grids slot is (omega arith))
    (subst (λ (z : Cpx). IsSeenAs most is.gain z (seen_at slot symbol k)) same
    (pattern_place_seen quota most are_seen port_0 7 recording starts grids slot is symbol k few inside))

pub received_slot_is_heard : ReceivedSlotIsHeard
received_slot_is_heard = received_speaks 1800 2316 1 amplitude_is_seen_in_recording values_support_bits

pub quiet_slot_is_heard : QuietSlotIsHeard
quiet_slot_is_heard = received_speaks 1024 1920 8 quiet_amplitude_is_seen_in_recording quiet_values_support_bits
