-- The score of a clean cell's synchronisation signals: the transmitted identity group and half-frame have the maximum.
-- (own; the signals are in TS 36.211 section 6.11)
use Rattle.std.specs.Prelude.{◌≡◌, ℕ, ◌+◌, ◌-◌, ◌*◌, ◌<◌, ◌≤◌, List, pos, ◌*ℤ◌, ◌<ℤ◌, ◌^◌}
use Rattle.cs_num.specs.declared.Cpx.{Cpx}
use Rattle.cs_num.specs.declared.Sample.{Sample}
use Rattle.cs_num.specs.Complex.{times, square}
use Rattle.lte_types.specs.declared.frame.Half.{Half}
use Rattle.lte_types.specs.declared.numerology.Prefix.{Prefix}
use Rattle.lte_types.specs.Numerology.{symbol_step}
use Rattle.sync_seq.specs.Primary.{pss_at}
use Rattle.sync_seq.specs.Middle.{in_middle, middle}
use Rattle.sync_seq.specs.Secondary.{sss_amplitude, sss_at}
use Rattle.pss_search.specs.Correlation.{pss_grid}
use Rattle.sss_detect.specs.Scores.{agreement, score}
use Rattle.lte_types.specs.declared.hit.Hit.{Hit}
use Rattle.sss_detect.specs.Identity.{best_pair, prefix_identity}
use Rattle.observe.specs.Seen.{seen}
use Rattle.budget.specs.Received.{IsReceived, IsSeenAs, IsSeenNear, samples_from}

-- the elements of a symbol that holds only the SSS in the middle 62 subcarriers
abbrev pub sss_grid : ℕ → ℕ → Half → ℕ → Cpx
sss_grid n1 n2 half = in_middle (sss_amplitude n1 n2 half)

-- The 62 elements of both synchronisation signals, for an identity and half-frame, are demodulated with one gain of
-- magnitude at least 1. Each deviates by at most 2316 / 64 (about 36.2) amplitude units.
pub record AreSeen (gain : Cpx) (n1 n2 : ℕ) (half : Half) (pss_seen sss_seen : ℕ → Cpx) : Type 0 where
  pub group : n1 ≤ 167
  pub root : n2 ≤ 2
  pub sounds : 2 ^ 28 ≤ square gain
  pub primary : (n : ℕ) → n < 62 → IsSeenAs 2316 gain (pss_at n2 n) (pss_seen (middle n))
  pub secondary : (n : ℕ) → n < 62 → IsSeenAs 2316 gain (sss_amplitude n1 n2 half n) (sss_seen (middle n))

-- if both synchronisation signals are demodulated as `AreSeen` states, each of the 62 terms in the score of the
-- transmitted identity group and half-frame is positive
abbrev pub TermsArePositive : Type 0
TermsArePositive =
    (gain : Cpx) (n1 n2 : ℕ) (half : Half) (pss_seen sss_seen : ℕ → Cpx) → AreSeen gain n1 n2 half pss_seen sss_seen →
    (n : ℕ) → n < 62 →
    pos 0 <ℤ (sss_at n1 n2 half n *ℤ agreement pss_seen sss_seen n2 n)

-- if both synchronisation signals are demodulated as `AreSeen` states, every other pair of an identity group and a
-- half-frame has a smaller score than the transmitted pair
abbrev pub SentPairIsGreatest : Type 0
SentPairIsGreatest =
    (gain : Cpx) (n1 n2 : ℕ) (half : Half) (pss_seen sss_seen : ℕ → Cpx) → AreSeen gain n1 n2 half pss_seen sss_seen →
    (m : ℕ) (other : Half) → m ≤ 167 →
    ((m ≡ n1) × (other ≡ half) → ⊥) → score pss_seen sss_seen n2 m other <ℤ score pss_seen sss_seen n2 n1 half

-- a law: if both synchronisation signals are demodulated as `AreSeen` states, the transmitted identity group and
-- half-frame are `best_pair`
abbrev pub SentPairIsBest : Type 0
SentPairIsBest =
    (gain : Cpx) (n1 n2 : ℕ) (half : Half) (pss_seen sss_seen : ℕ → Cpx) → AreSeen gain n1 n2 half pss_seen sss_seen →
    best_pair (score pss_seen sss_seen n2) ≡ (n1, half)

-- The PSS of a cell is received from sample `t` of a recording, and the SSS one symbol earlier (a symbol with
-- `prefix`), both with one gain. The error energy of each is at most 1800 times the gain's square.
pub record AreSignals (prefix : Prefix) (recording : List Sample) (t n1 n2 : ℕ) (half : Half) : Type 0 where
  pub group : n1 ≤ 167
  pub root : n2 ≤ 2
  pub gain : Cpx
  pub primary : IsReceived 1800 gain (pss_grid n2) (samples_from recording t)
  pub secondary : IsReceived 1800 gain (sss_grid n1 n2 half) (samples_from recording (t - symbol_step prefix))

-- a PSS detection at the primary signal identifies the transmitted identity group and half-frame, if both
-- synchronisation signals are received with one gain, each with error energy up to 1800 times the gain's square
abbrev pub SentPairIsIdentified : Type 0
SentPairIsIdentified =
    (prefix : Prefix) (recording : List Sample) (hit : Hit) (n1 : ℕ) (half : Half) →
    AreSignals prefix recording hit.t n1 hit.n2 half →
    prefix_identity prefix recording hit ≡ (n1, half)

-- ---- through a channel

-- Both synchronisation signals, for an identity and half-frame, are demodulated through one channel with a gain for
-- each subcarrier. Bounds are relative to a magnitude whose square is `n`: demodulated values deviate by at most `most`
-- times that magnitude, and each gain is at least `least` thousandths of the magnitude.
pub record AreSeenThrough (most least n : ℕ) (gain : ℕ → Cpx) (n1 n2 : ℕ) (half : Half) (pss_seen sss_seen : ℕ → Cpx) :
    Type 0 where
  pub group : n1 ≤ 167
  pub root : n2 ≤ 2
  pub sounds : 1 ≤ n
  pub reads : (k : ℕ) → k < 62 → least * least * n ≤ 1000000 * square (gain (middle k))
  pub primary : (k : ℕ) → k < 62 → IsSeenNear most n (times (gain (middle k)) (pss_at n2 k)) (pss_seen (middle k))
  pub secondary : (k : ℕ) → k < 62 →
      IsSeenNear most n (times (gain (middle k)) (sss_amplitude n1 n2 half k)) (sss_seen (middle k))

-- The main part of each term of the score outweighs the term's deviation. The factors bound the contributions to the
-- deviation: 1016 for the PSS, 1000 for the SSS, and 125 for the product of both.
abbrev pub LeaveTermsRoom : ℕ → ℕ → Type 0
LeaveTermsRoom most least = 2016 * (least * most) + 125 * (most * most) < 8128 * (least * least)

-- An identity group and a half-frame are the only best pair: each term of their score is positive, and every other pair
-- of a group and a half-frame has a smaller score.
pub record PairStandsAlone (n1 n2 : ℕ) (half : Half) (pss_seen sss_seen : ℕ → Cpx) : Type 0 where
  pub terms : (n : ℕ) → n < 62 → pos 0 <ℤ (sss_at n1 n2 half n *ℤ agreement pss_seen sss_seen n2 n)
  pub greatest : (m : ℕ) (other : Half) → m ≤ 167 → ((m ≡ n1) × (other ≡ half) → ⊥) →
      score pss_seen sss_seen n2 m other <ℤ score pss_seen sss_seen n2 n1 half
  pub best : best_pair (score pss_seen sss_seen n2) ≡ (n1, half)

-- the transmitted identity group and half-frame are the only best pair, if both synchronisation signals are demodulated
-- through a channel whose bounds leave room
abbrev pub SentPairStandsAlone : Type 0
SentPairStandsAlone =
    (most least n : ℕ) (gain : ℕ → Cpx) (n1 n2 : ℕ) (half : Half) (pss_seen sss_seen : ℕ → Cpx) →
    LeaveTermsRoom most least → AreSeenThrough most least n gain n1 n2 half pss_seen sss_seen →
    PairStandsAlone n1 n2 half pss_seen sss_seen

-- a PSS detection identifies the transmitted identity group and half-frame, if both signals are demodulated through a
-- channel whose bounds leave room, the PSS at the detection and the SSS one symbol earlier (a symbol with `prefix`)
abbrev pub SentPairIsIdentifiedThrough : Type 0
SentPairIsIdentifiedThrough =
    (most least n : ℕ) (gain : ℕ → Cpx) (prefix : Prefix) (recording : List Sample) (hit : Hit) (n1 : ℕ) (half : Half) →
    LeaveTermsRoom most least →
    AreSeenThrough most least n gain n1 hit.n2 half (seen recording hit.t)
    (seen recording (hit.t - symbol_step prefix)) →
    prefix_identity prefix recording hit ≡ (n1, half)

-- ---- one gain is a channel

abbrev pub OneGainLeavesTermsRoom : Type 0
OneGainLeavesTermsRoom = LeaveTermsRoom 2316 1000

abbrev pub OneGainIsSeenThrough : Type 0
OneGainIsSeenThrough =
    (gain : Cpx) (n1 n2 : ℕ) (half : Half) (pss_seen sss_seen : ℕ → Cpx) → AreSeen gain n1 n2 half pss_seen sss_seen →
    AreSeenThrough 2316 1000 (square gain) (λ k. gain) n1 n2 half pss_seen sss_seen
