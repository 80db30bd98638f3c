-- Pairs in a recording's slot with several ports have soft values with the sent bits' signs.
use Rattle.std.proofs.Common.{◌≡◌, ℕ, ◌*◌, ◌^◌, ◌<◌, ◌≤◌, ◌%◌, arith, ap, subst, List}
use Rattle.cs_num.specs.declared.Cpx.{Cpx}
use Rattle.cs_num.specs.declared.Sample.{Sample}
use Rattle.cs_num.specs.Complex.{times, minus, multiple, square}
use Rattle.cs_num.proofs.Sums.{complex_sum_below_same}
use Rattle.norms.specs.Magnitudes.{energy_below}
use Rattle.crs.specs.Qpsk.{point}
use Rattle.lte_types.specs.declared.carrier.Carrier.{Carrier}
use Rattle.lte_types.specs.Carrier.{ports_of}
use Rattle.soft_bits.specs.Lines.{Line, line_of, line_place}
use Rattle.soft_bits.specs.Pairs.{Pairing, over_two, pair_values}
use Rattle.soft_bits.specs.Soft.{SeenSlot, seen_at}
use Rattle.soft_bits.proofs.Lines.{is_line}
use Rattle.budget.specs.Budget.{AmplitudesAreSeenInRecording}
use Rattle.budget.specs.Received.{in_parts, IsSeenBy}
use Rattle.budget.proofs.Seen.{two_amplitudes_are_seen_in_recording, quiet_two_are_seen_in_recording}
use Rattle.clean_air.proofs.SoftValues.{place_shown}
use Rattle.two_ports.specs.Received.{ArePortsSeen, IsSlotReceived, PairsSpeak, SpeakWith, SpeakReceivedWith, ReceivedPairSpeaks, QuietReceivedPairSpeaks, only, first_sent, second_sent}
use Rattle.two_ports.proofs.Values.{pair_values_speak, quiet_pair_values_speak}

-- each resource element of a slot is observed as received from all ports with these gains, and all ports' reference
-- signals stand alone
pub record IsSlotSeen (carrier : Carrier) (most : ℕ) (gains : ℕ → Cpx) (grids : ℕ → ℕ → ℕ → Cpx) (slot : SeenSlot) : Type 0 where
  pub sounds : 2 ^ 28 ≤ energy_below (ports_of carrier) gains
  pub place : (symbol k : ℕ) → symbol < 7 → k < 72 → IsSeenBy (ports_of carrier) most gains (λ port. grids port symbol k) (seen_at slot symbol k)
  pub pilots : (port i other : ℕ) → port < ports_of carrier → i ≤ (line_of carrier port slot).last → other < ports_of carrier →
      grids other ((line_of carrier port slot).symbol i) (line_place (line_of carrier port slot) i) ≡ only port ((line_of carrier port slot).sent i) other

module _ (carrier : Carrier) (most : ℕ) (gains : ℕ → Cpx) (grids : ℕ → ℕ → ℕ → Cpx) (slot : SeenSlot) (is : IsSlotSeen carrier most gains grids slot) where
  abbrev IsSeen : (ℕ → Cpx) → Cpx → Type 0
  IsSeen = IsSeenBy (ports_of carrier) most gains

  place_holds : (symbol k : ℕ) (these : ℕ → Cpx) → symbol < 7 → k < 72 → ((port : ℕ) → port < ports_of carrier → grids port symbol k ≡ these port) → IsSeen these (seen_at slot symbol k)
  place_holds symbol k these few inside send = record {
    off = subst (λ (z : Cpx). square (minus (in_parts (seen_at slot symbol k)) (multiple 64 z)) ≤ most * most * energy_below (ports_of carrier) gains)
        (complex_sum_below_same (ports_of carrier) (λ port. times (gains port) (grids port symbol k)) (λ port. times (gains port) (these port)) (λ port l. ap (times (gains port)) (send port l)))
        (is.place symbol k few inside).off;
  }

  ports_seen : ArePortsSeen carrier most gains slot
  ports_seen = record {
    sounds = is.sounds;
    pilots = λ port i l few.
        let line : Line = line_of carrier port slot in
        let on = is_line carrier port slot in
        let row = on.row i in
        place_holds (line.symbol i) (line_place line i) _ (omega (arith, row)) (on.inside i few) (λ other m. is.pilots port i other l few m);
  }

-- the pairs of a slot that is observed from all ports have soft values with the signs of their bits
pub seen_pairs_speak : (pairing : Pairing) (most least : ℕ) (gains : ℕ → Cpx) → SpeakWith gains pairing most least → (grids : ℕ → ℕ → ℕ → Cpx) (slot : SeenSlot) →
    IsSlotSeen pairing.carrier most gains grids slot → PairsSpeak pairing least grids slot
unfolding pair_values
seen_pairs_speak pairing most least gains speak grids slot is i p q b c d e l m carry =
    let holds = place_holds pairing.carrier most gains grids slot is in
    speak slot i p.k b c d e (seen_at slot (p.symbol % 7) p.k) (seen_at slot (q.symbol % 7) q.k)
    (ports_seen pairing.carrier most gains grids slot is)
    (record {
      first = holds (p.symbol % 7) p.k (first_sent pairing i (point b c) (point d e)) (omega arith) l carry.first;
      second = holds (q.symbol % 7) q.k (second_sent pairing i (point b c) (point d e)) (omega arith) m carry.second;
    })

-- a received slot is observed from all ports
received_slot_is_seen : (carrier : Carrier) (quota most : ℕ) → AmplitudesAreSeenInRecording (ports_of carrier) quota most → (gains : ℕ → Cpx) (recording : List Sample) (starts : ℕ → ℕ) (grids : ℕ → ℕ → ℕ → Cpx)
    (slot : SeenSlot) → IsSlotReceived carrier quota gains recording starts grids slot → IsSlotSeen carrier most gains grids slot
received_slot_is_seen carrier quota most are_seen gains recording starts grids slot is = record {
  sounds = (is.received 0 (omega arith)).sounds;
  place = λ symbol k few inside.
      subst (λ (z : Cpx). IsSeenBy (ports_of carrier) most gains (λ port. grids port symbol k) z) (place_shown recording (starts symbol) slot symbol k (is.seen symbol few) inside)
      (are_seen gains (λ port. grids port symbol) recording (starts symbol) k (λ port l. is.amplitudes port symbol l few) (is.received symbol few) inside);
  pilots = is.pilots;
}

pub received_pair_speaks_by : (pairing : Pairing) (quota most least : ℕ) → AmplitudesAreSeenInRecording (ports_of pairing.carrier) quota most → (gains : ℕ → Cpx) → SpeakWith gains pairing most least →
    SpeakReceivedWith gains pairing quota least
received_pair_speaks_by pairing quota most least are_seen gains speak recording starts grids slot is =
    seen_pairs_speak pairing most least gains speak grids slot (received_slot_is_seen pairing.carrier quota most are_seen gains recording starts grids slot is)

pub received_pair_speaks : ReceivedPairSpeaks
received_pair_speaks gains = received_pair_speaks_by over_two 400 1464 1 two_amplitudes_are_seen_in_recording gains (pair_values_speak gains)

pub quiet_received_pair_speaks : QuietReceivedPairSpeaks
quiet_received_pair_speaks gains = received_pair_speaks_by over_two 64 1024 16 quiet_two_are_seen_in_recording gains (quiet_pair_values_speak gains)
