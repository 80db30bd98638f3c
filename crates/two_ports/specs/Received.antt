-- Resource elements received from several antenna ports: a transmit diversity pair's soft values have the signs of the
-- sent bits. (own)
use Rattle.std.specs.Prelude.{◌≡◌, ℕ, ◌%◌, ◌^◌, ◌<◌, ◌≤◌, Bool, nat_eq, if◌then◌else◌, List, [], slice_index_or, ℤ, pos}
use Rattle.cs_num.specs.declared.Cpx.{Cpx}
use Rattle.cs_num.specs.declared.Sample.{Sample}
use Rattle.cs_num.specs.Complex.{nothing, conjugate, negated}
use Rattle.norms.specs.Magnitudes.{energy_below}
use Rattle.cs_bits.specs.Signs.{Supports}
use Rattle.crs.specs.Qpsk.{point}
use Rattle.observe.specs.Seen.{seen_symbol}
use Rattle.lte_types.specs.declared.carrier.Carrier.{Carrier}
use Rattle.lte_types.specs.Carrier.{ports_of}
use Rattle.grid_map.specs.declared.Place.{Place}
use Rattle.soft_bits.specs.Lines.{line_of, line_place, line_seen}
use Rattle.soft_bits.specs.Pairs.{Pairing, over_two, seen_by, pair_values}
use Rattle.soft_bits.specs.Soft.{SeenSlot}
use Rattle.budget.specs.Received.{AreAmplitudes, IsReceivedBy, IsSeenBy, samples_from}
use Rattle.lte_types.specs.Numerology.{subcarriers}

-- ---- the elements that the ports send

-- the symbol that port `other` sends if `port` sends `z` and all other ports send nothing
abbrev pub only : ℕ → Cpx → ℕ → Cpx
only port z other = if nat_eq other port then z else nothing

-- the symbol that port `other` sends if the port `lower` sends `a`, the port `upper` sends `b`, and all other ports
-- send nothing
abbrev pub over : ℕ → ℕ → Cpx → Cpx → ℕ → Cpx
over lower upper a b other = if nat_eq other lower then a else only upper b other

-- the symbols that the ports send in the first resource element of pair `i` with symbols `x` and `y`: the lower port x,
-- and the upper port -conj(y) (TS 36.211 section 6.3.4.3)
abbrev pub first_sent : Pairing → ℕ → Cpx → Cpx → ℕ → Cpx
first_sent pairing i x y = over (pairing.lower i) (pairing.upper i) x (negated (conjugate y))

-- the symbols that the ports send in the second resource element of pair `i` with symbols `x` and `y`: the lower port
-- y, and the upper port conj(x) (TS 36.211 section 6.3.4.3)
abbrev pub second_sent : Pairing → ℕ → Cpx → Cpx → ℕ → Cpx
second_sent pairing i x y = over (pairing.lower i) (pairing.upper i) y (conjugate x)

-- ---- received resource elements

-- All ports' pilots are received in `slot`, each port's pilots with the port's gain, in units of 2^-14, and without
-- other ports' signals. Each pilot is off by at most `most` / 64 amplitude units times the root of the gains' total
-- energy, which is at least 1.
pub record ArePortsSeen (carrier : Carrier) (most : ℕ) (gains : ℕ → Cpx) (slot : SeenSlot) : Type 0 where
  pub sounds : 2 ^ 28 ≤ energy_below (ports_of carrier) gains
  pub pilots : (port i : ℕ) → port < ports_of carrier → i ≤ (line_of carrier port slot).last →
      IsSeenBy (ports_of carrier) most gains (only port ((line_of carrier port slot).sent i))
      (line_seen (line_of carrier port slot) slot i)

-- pair `i` with symbols `x` and `y` is received in two resource elements, with the values `a` and `b`, each off by at
-- most `most` / 64 amplitude units times the root of the gains' total energy
pub record IsPairSeen (pairing : Pairing) (most : ℕ) (gains : ℕ → Cpx) (i : ℕ) (x y a b : Cpx) : Type 0 where
  pub first : IsSeenBy (ports_of pairing.carrier) most gains (first_sent pairing i x y) a
  pub second : IsSeenBy (ports_of pairing.carrier) most gains (second_sent pairing i x y) b

-- the four soft values `values` have the signs of the bits `b`, `c`, `d` and `e` and magnitudes of at least `least`
pub record SupportFour (least : ℕ) (b c d e : Bool) (values : List ℤ) : Type 0 where
  pub first : Supports least b (slice_index_or values 0 (pos 0))
  pub second : Supports least c (slice_index_or values 1 (pos 0))
  pub third : Supports least d (slice_index_or values 2 (pos 0))
  pub fourth : Supports least e (slice_index_or values 3 (pos 0))

-- a pair's four soft values, with the channel estimates for any subcarrier `k`, have its bits' signs and magnitudes of
-- at least `least`, if all pilots and the pair's two resource elements are off by at most `most` / 64 amplitude units
-- times the root of the gains' total energy
abbrev pub SpeakWith : (ℕ → Cpx) → Pairing → ℕ → ℕ → Type 0
SpeakWith gains pairing most least =
    (slot : SeenSlot) (i k : ℕ) (b c d e : Bool) (at_first at_second : Cpx) →
    ArePortsSeen pairing.carrier most gains slot →
    IsPairSeen pairing most gains i (point b c) (point d e) at_first at_second →
    SupportFour least b c d e (seen_by pairing i slot k at_first at_second)

-- ---- slots of a recording

-- The seven symbols of `slot` are received from all ports with the gains `gains` and error energies up to `quota` times
-- the gains' total energy. They contain all ports' reference signals; no port sends anything in another port's
-- reference elements.
pub record IsSlotReceived (carrier : Carrier) (quota : ℕ) (gains : ℕ → Cpx) (recording : List Sample)
    (starts : ℕ → ℕ) (grids : ℕ → ℕ → ℕ → Cpx) (slot : SeenSlot) : Type 0 where
  pub seen : (l : ℕ) → l < 7 → slice_index_or slot.symbols l [] ≡ seen_symbol recording (starts l)
  pub amplitudes : (port l : ℕ) → port < ports_of carrier → l < 7 → AreAmplitudes (grids port l)
  pub received : (l : ℕ) → l < 7 →
      IsReceivedBy (ports_of carrier) quota gains (λ port. grids port l) (samples_from recording (starts l))
  pub pilots : (port i other : ℕ) → port < ports_of carrier → i ≤ (line_of carrier port slot).last →
      other < ports_of carrier →
      grids other ((line_of carrier port slot).symbol i) (line_place (line_of carrier port slot) i)
      ≡ only port ((line_of carrier port slot).sent i) other

-- the resource elements `p` and `q` carry pair `i` with symbols `x` and `y`
pub record CarryPair (pairing : Pairing) (grids : ℕ → ℕ → ℕ → Cpx) (i : ℕ) (p q : Place) (x y : Cpx) : Type 0 where
  pub first : (port : ℕ) → port < ports_of pairing.carrier →
      grids port (p.symbol % 7) p.k ≡ first_sent pairing i x y port
  pub second : (port : ℕ) → port < ports_of pairing.carrier →
      grids port (q.symbol % 7) q.k ≡ second_sent pairing i x y port

-- any two resource elements of `slot` that carry a pair have four soft values with the pair's bits' signs and
-- magnitudes of at least `least`
abbrev pub PairsSpeak : Pairing → ℕ → (ℕ → ℕ → ℕ → Cpx) → SeenSlot → Type 0
PairsSpeak pairing least grids slot =
    (i : ℕ) (p q : Place) (b c d e : Bool) → p.k < subcarriers → q.k < subcarriers →
    CarryPair pairing grids i p q (point b c) (point d e) →
    SupportFour least b c d e (pair_values pairing i slot p q)

-- in each slot that is received with the gains `gains` and error energies up to `quota` times the gains' total energy,
-- any two resource elements that carry a pair have four soft values with the pair's bits' signs and magnitudes of at
-- least `least`
abbrev pub SpeakReceivedWith : (ℕ → Cpx) → Pairing → ℕ → ℕ → Type 0
SpeakReceivedWith gains pairing quota least =
    (recording : List Sample) (starts : ℕ → ℕ) (grids : ℕ → ℕ → ℕ → Cpx) (slot : SeenSlot) →
    IsSlotReceived pairing.carrier quota gains recording starts grids slot → PairsSpeak pairing least grids slot

-- ---- two ports

-- a law: for any gains, a pair's four soft values have its bits' signs if each received element is off by at most 1464
-- / 64 amplitude units times the root of the gains' total energy
abbrev pub PairValuesSpeak : Type 0
PairValuesSpeak = (gains : ℕ → Cpx) → SpeakWith gains over_two 1464 1

-- a law: in a recording, a pair's four soft values have its bits' signs if each symbol's error energy is at most 400
-- times the gains' total energy
abbrev pub ReceivedPairSpeaks : Type 0
ReceivedPairSpeaks = (gains : ℕ → Cpx) → SpeakReceivedWith gains over_two 400 1

-- a law: a pair's four soft values have its bits' signs and magnitudes of at least 16 if each received element is off
-- by at most 16 amplitude units times the root of the gains' total energy
abbrev pub QuietPairValuesSpeak : Type 0
QuietPairValuesSpeak = (gains : ℕ → Cpx) → SpeakWith gains over_two 1024 16

-- a law: in a recording, a pair's four soft values have its bits' signs and magnitudes of at least 16 if each symbol's
-- error energy is at most 64 times the gains' total energy
abbrev pub QuietReceivedPairSpeaks : Type 0
QuietReceivedPairSpeaks = (gains : ℕ → Cpx) → SpeakReceivedWith gains over_two 64 16
