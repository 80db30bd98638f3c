-- Sample counts and antenna port gains of transmissions, and the errors that clean recordings with such gains allow.
-- (own)
use Rattle.std.specs.Prelude.{ℕ, ◌+◌, ◌*◌, ◌≤◌, List, nat_eq, nat_lt, MatchBool}
use Rattle.std.specs.Bool.{OnTrue}
use Rattle.std.proofs.Props.{props}
use Rattle.cs_num.specs.declared.Cpx.{Cpx}
use Rattle.cs_num.specs.Complex.{square, value_at}
use Rattle.cs_num.specs.Gain.{IsGain}
use Rattle.finite.specs.Sums.{total_below}
use Rattle.norms.specs.Magnitudes.{squares_of_four, ArePaired}
use Rattle.lte_types.specs.declared.carrier.Carrier.{Carrier}
use Rattle.lte_types.specs.Carrier.{ports_of}
use Rattle.lte_types.specs.Numerology.{least_samples, most_samples}

-- a transmission's sample count is from 57,600 to 1,920,000
pub record IsCount (samples : ℕ) : Type 0 where
  pub least : least_samples ≤ samples
  pub most : samples ≤ most_samples

-- ---- two antenna ports

-- the gains of two antenna ports: port 0's gain is not 0, and the squared magnitudes add up to at most 392
pub record AreGains (first second : Cpx) : Type 0 where
  pub least : 1 ≤ square first
  pub most : square first + square second ≤ 392

-- Errors whose components have magnitudes up to `eps` are allowed: `eps`^2 is at most a quarter of both gains' summed
-- squared magnitudes, and at most four times the first gain's squared magnitude.
pub record IsAllowed (first second : Cpx) (eps : ℕ) : Type 0 where
  pub both : 4 * (eps * eps) ≤ square first + square second
  pub one : eps * eps ≤ 4 * square first

-- ---- four antenna ports

-- the power of four ports' gains: the sum of their squared magnitudes
abbrev pub power_of_four : List Cpx → ℕ
power_of_four gains = squares_of_four (value_at gains)

-- the gains of four antenna ports: port 0's gain is not 0, and the power is at most 196
pub record AreGainsOfFour (gains : List Cpx) : Type 0 where
  pub least : 1 ≤ square (value_at gains 0)
  pub most : power_of_four gains ≤ 196

-- each transmit diversity pair of ports, 0 and 2 or 1 and 3, has at least three eighths of the power
abbrev pub HavePairs : List Cpx → Type 0
HavePairs gains = ArePaired (value_at gains)

-- Errors whose components have magnitudes up to `eps` are allowed: `eps`^2 is at most 1/64 of the power. Also, no
-- transmit diversity pair of ports is weak.
pub record IsAllowedOfFour (gains : List Cpx) (eps : ℕ) : Type 0 where
  pub pairs : HavePairs gains
  pub quiet : 64 * (eps * eps) ≤ power_of_four gains

-- ---- any scheme, by its port count

-- the type for the port count of a transmission scheme: `One`, `Two` or `Four`
abbrev pub ByPorts : Carrier → Type 0 → Type 0 → Type 0 → Type 0
ByPorts carrier One Two Four =
    MatchBool (nat_eq (ports_of carrier) 1) One (MatchBool (nat_eq (ports_of carrier) 2) Two Four)

-- the power of a transmission scheme's gains: the sum of the squared magnitudes for its ports
abbrev pub power_of : Carrier → List Cpx → ℕ
power_of carrier gains = total_below (ports_of carrier) (λ port. square (value_at gains port))

-- the gains of clean recordings: port 0's gain is not 0, and the power is at most 784, 392 or 196 for 1, 2 or 4 ports
abbrev pub AreGainsOf : Carrier → List Cpx → Type 0
AreGainsOf carrier gains =
    ByPorts carrier (IsGain (value_at gains 0)) (AreGains (value_at gains 0) (value_at gains 1)) (AreGainsOfFour gains)

-- a law: `AreGainsOf` is a proposition (any two proofs are equal)
pub are_gains_prop : (carrier : Carrier) (gains : List Cpx) → IsProp (AreGainsOf carrier gains)
are_gains_prop carrier gains = hlevel props

-- a clean recording whose ports have gains `gains` may have errors with components up to `eps`
abbrev pub IsAllowedBy : Carrier → List Cpx → ℕ → Type 0
IsAllowedBy carrier gains eps =
    ByPorts carrier (eps * eps ≤ 4 * square (value_at gains 0)) (IsAllowed (value_at gains 0) (value_at gains 1) eps)
    (IsAllowedOfFour gains eps)

-- a condition on the gains for detection: with four ports, no transmit diversity pair is weak
abbrev pub ArePairedBy : Carrier → List Cpx → Type 0
ArePairedBy carrier gains = OnTrue (nat_lt 2 (ports_of carrier)) (HavePairs gains)
