-- Demodulated amplitudes, from the three causes: magnitudes in units of 2^31 times the gain.
use Rattle.std.proofs.Common.{◌≡◌, ℕ, zero, suc, ◌+◌, ◌*◌, ◌^◌, ◌<◌, ◌≤◌, arith, ap, sym, subst, mul-le-mul, mul-le-mul_left, mul-le-mul_right}
use Rattle.std.proofs.Math.Path.{fun_ext}
use Rattle.finite.specs.Sums.{sum_below, total_below}
use Rattle.cs_num.specs.declared.Cpx.{Cpx}
use Rattle.cs_num.specs.Complex.{nothing, plus, times, square, minus, multiple}
use Rattle.cs_num.proofs.Complex.{plus-nothing}
use Rattle.norms.specs.Magnitudes.{IsBounded, energy_below}
use Rattle.norms.proofs.Squares.{square-multiple}
use Rattle.norms.proofs.Bounded.{bounded-plus}
use Rattle.fold128.specs.Symbol.{useful_at}
use Rattle.observe.specs.Seen.{seen}
use Rattle.budget.specs.Received.{AreAmplitudes, in_parts, off_by, received_of, samples_from}
use Rattle.budget.specs.Budget.{AmplitudeIsSeen, AmplitudesAreSeen, AmplitudeIsSeenInRecording, AmplitudesAreSeenInRecording, AreUnitsOf, UnitsAreSeen, seen_in, sending_off}
use Rattle.budget.proofs.Causes.{three_causes, IsSent, sent_by_one, sent-plus}

-- three magnitudes in units of 2^31 times the gain, whose sum bounds 2^29 times the deviation
pub join : (a b c n : ℕ) (d x y z : Cpx) → multiple (2 ^ 29) d ≡ plus x (plus y z) → IsBounded (a * 2 ^ 31) n x → IsBounded (b * 2 ^ 31) n y → IsBounded (c * 2 ^ 31) n z →
    square d ≤ 16 * ((a + (b + c)) * (a + (b + c))) * n
join a b c n d x y z e p q r =
    let whole = bounded-plus x (plus y z) (a * 2 ^ 31) (b * 2 ^ 31 + c * 2 ^ 31) n p (bounded-plus y z (b * 2 ^ 31) (c * 2 ^ 31) n q r) in
    down a b c n (square d) (square (multiple (2 ^ 29) d)) (square (plus x (plus y z))) (square-multiple (2 ^ 29) d) (ap (λ (v : Cpx). square v) e) whole.bounded
  where
    down : (a b c n s t u : ℕ) → t ≡ 2 ^ 29 * 2 ^ 29 * s → t ≡ u → u ≤ (a * 2 ^ 31 + (b * 2 ^ 31 + c * 2 ^ 31)) * (a * 2 ^ 31 + (b * 2 ^ 31 + c * 2 ^ 31)) * n → s ≤ 16 * ((a + (b + c)) * (a + (b + c))) * n
    down a b c n s t u e f h = omega (arith, e, f, h)

-- the squared maximum transmit error for one port's symbol
unit : ℕ
unit = (97 * 2 ^ 31) * (97 * 2 ^ 31)

-- for several ports, with error energy at most `quota` times n, the gains' summed squares: a units for transmission, b
-- for the errors and 1 for rounding make at most `most` in all
record AreUnits (ports quota most a b : ℕ) : Type 0 where
  some : 1 ≤ ports
  sending : (n s : ℕ) → s ≤ ports * ((97 * 2 ^ 31) * (97 * 2 ^ 31)) * n → s ≤ (a * 2 ^ 31) * (a * 2 ^ 31) * n
  errors : (n s : ℕ) → s ≤ 2 ^ 41 * (quota * n) * (16385 * 16385) → s ≤ (b * 2 ^ 31) * (b * 2 ^ 31) * n
  whole : (n s : ℕ) → s ≤ 16 * ((a + (b + 1)) * (a + (b + 1))) * n → s ≤ most * most * n

pub rounding_in : (n s : ℕ) → 2 ^ 28 ≤ n → s ≤ 2 ^ 85 → s ≤ (1 * 2 ^ 31) * (1 * 2 ^ 31) * n
rounding_in n s l h =
    let k : 2 ^ 62 * 2 ^ 28 ≤ 2 ^ 62 * n = mul-le-mul_left (2 ^ 62) l in
    omega (arith, h, k)

module _ (ports quota most a b : ℕ) (units : AreUnits ports quota most a b) where
  errors_in : (n e s : ℕ) → e ≤ quota * n → s ≤ 2 ^ 41 * e * (16385 * 16385) → s ≤ (b * 2 ^ 31) * (b * 2 ^ 31) * n
  errors_in n e s quiet h =
      units.errors n s (let k : 2 ^ 41 * (16385 * 16385) * e ≤ 2 ^ 41 * (16385 * 16385) * (quota * n) = mul-le-mul_left (2 ^ 41 * (16385 * 16385)) quiet in omega (arith, h, k))

  is_seen : (n : ℕ) (sent samples : ℕ → Cpx) (amplitude : Cpx) (k : ℕ) → 2 ^ 28 ≤ n → IsSent (ports * unit) n sent amplitude k → energy_below 128 (off_by samples sent) ≤ quota * n →
      square (minus (in_parts (seen_in samples k)) (multiple 64 amplitude)) ≤ most * most * n
  unfolding unit
  is_seen n sent samples amplitude k some sending quiet =
      let causes = three_causes sent samples amplitude k in
      let d : Cpx = minus (in_parts (seen_in samples k)) (multiple 64 amplitude) in
      units.whole n (square d)
      (join a b 1 n d (sending_off sent amplitude k) causes.errors causes.rounding causes.whole
      (record { bounded = units.sending n (square (sending_off sent amplitude k)) sending.off })
      (record { bounded = errors_in n (energy_below 128 (off_by samples sent)) (square causes.errors) quiet causes.errors_small })
      (record { bounded = rounding_in n (square causes.rounding) some causes.rounding_small }))

-- ---- one gain

by_one : (quota most b : ℕ) → AreUnits 1 quota most 97 b → AmplitudeIsSeen quota most
unfolding unit
by_one quota most b units gain grid samples k small received l = record {
  off = is_seen 1 quota most 97 b units (square gain) (λ n. times gain (useful_at grid n)) samples (times gain (grid k)) k received.sounds (sent_by_one gain grid k small l) received.quiet;
}

in_recording : (quota most : ℕ) → AmplitudeIsSeen quota most → AmplitudeIsSeenInRecording quota most
unfolding seen
in_recording quota most is gain grid recording start k small received l = is gain grid (samples_from recording start) k small received l

units_of_share : (quota most : ℕ) (units : AreUnitsOf quota most) → AreUnits 1 quota most 97 units.errors
units_of_share quota most units = record {
  some = omega arith;
  sending = λ n s h. omega (arith, h);
  errors = λ n s h. erring units.errors units.enough n s h;
  whole = λ n s h. fitting (4 * (97 + (units.errors + 1))) (placed units.errors units.fits) (16 * ((97 + (units.errors + 1)) * (97 + (units.errors + 1)))) (sixteen (97 + (units.errors + 1))) n s h;
}
  where
    erring : (b : ℕ) → 2 ^ 41 * quota * (16385 * 16385) ≤ (b * 2 ^ 31) * (b * 2 ^ 31) → (n s : ℕ) → s ≤ 2 ^ 41 * (quota * n) * (16385 * 16385) → s ≤ (b * 2 ^ 31) * (b * 2 ^ 31) * n
    erring b enough n s h = let all : 2 ^ 41 * quota * (16385 * 16385) * n ≤ (b * 2 ^ 31) * (b * 2 ^ 31) * n = mul-le-mul_right n enough in omega (arith, h, all)

    placed : (b : ℕ) → 4 * (97 + b + 1) ≤ most → 4 * (97 + (b + 1)) ≤ most
    placed b fits = omega (arith, fits)

    sixteen : (u : ℕ) → 16 * (u * u) ≡ 4 * u * (4 * u)
    sixteen u = omega arith

    fitting : (c : ℕ) → c ≤ most → (w : ℕ) → w ≡ c * c → (n s : ℕ) → s ≤ w * n → s ≤ most * most * n
    fitting c fits w same n s h =
        let square : c * c ≤ most * most = mul-le-mul fits fits in
        let all : w * n ≤ most * most * n = mul-le-mul_right n (let l : w ≤ most * most = omega (arith, same, square) in l) in
        omega (arith, h, all)

pub units_are_seen : UnitsAreSeen
units_are_seen quota most units = (seen_with, in_recording quota most seen_with)
  where
    seen_with : AmplitudeIsSeen quota most
    seen_with = by_one quota most units.errors (units_of_share quota most units)

-- error energy of 1800 times the gain's square: 481 units
units_of_one : AreUnits 1 1800 2316 97 481
units_of_one = record { some = omega arith; sending = λ n s h. omega (arith, h); errors = λ n s h. omega (arith, h); whole = λ n s h. omega (arith, h) }

pub amplitude_is_seen : AmplitudeIsSeen 1800 2316
amplitude_is_seen = by_one 1800 2316 481 units_of_one

pub amplitude_is_seen_in_recording : AmplitudeIsSeenInRecording 1800 2316
amplitude_is_seen_in_recording = in_recording 1800 2316 amplitude_is_seen

-- error energy of 1024 times the gain's square: 363 units
units_of_quiet : AreUnits 1 1024 1920 97 363
units_of_quiet = record { some = omega arith; sending = λ n s h. omega (arith, h); errors = λ n s h. omega (arith, h); whole = λ n s h. omega (arith, h) }

pub quiet_amplitude_is_seen : AmplitudeIsSeen 1024 1920
quiet_amplitude_is_seen = by_one 1024 1920 363 units_of_quiet

pub quiet_amplitude_is_seen_in_recording : AmplitudeIsSeenInRecording 1024 1920
quiet_amplitude_is_seen_in_recording = in_recording 1024 1920 quiet_amplitude_is_seen

-- ---- the gains of several ports

sent_by_all : (ports : ℕ) (gains : ℕ → Cpx) (grids : ℕ → ℕ → Cpx) (k : ℕ) → 1 ≤ ports → ((port : ℕ) → port < ports → AreAmplitudes (grids port)) → k < 72 →
    IsSent (ports * unit) (energy_below ports gains) (λ n. received_of ports gains (λ port. useful_at (grids port) n)) (received_of ports gains (λ port. grids port k)) k
unfolding sum_below total_below unit
sent_by_all zero gains grids k some small l = absurd (omega (arith, some))
sent_by_all (suc zero) gains grids k some small l = record { off = wider _ (square (gains 0)) one.off }
  where
    one : IsSent unit (square (gains 0)) (λ n. plus nothing (times (gains 0) (useful_at (grids 0) n))) (plus nothing (times (gains 0) (grids 0 k))) k
    one =
        subst (λ (sent : ℕ → Cpx). IsSent unit (square (gains 0)) sent (plus nothing (times (gains 0) (grids 0 k))) k) (fun_ext (λ (n : ℕ). sym (plus-nothing (times (gains 0) (useful_at (grids 0) n)))))
        (subst (λ (z : Cpx). IsSent unit (square (gains 0)) (λ n. times (gains 0) (useful_at (grids 0) n)) z k) (sym (plus-nothing (times (gains 0) (grids 0 k))))
        (sent_by_one (gains 0) (grids 0) k (small 0 (omega arith)) l))

    wider : (s w : ℕ) → s ≤ unit * w → s ≤ suc zero * unit * (0 + w)
    wider s w h = omega (arith, h)
sent_by_all (suc (suc m)) gains grids k some small l =
    subst (λ (bound : ℕ). IsSent bound (energy_below (suc (suc m)) gains) (λ n. received_of (suc (suc m)) gains (λ port. useful_at (grids port) n)) (received_of (suc (suc m)) gains (λ port. grids port k)) k)
    (more (suc m) unit)
    (sent-plus (suc m * unit) unit (energy_below (suc m) gains) (square (gains (suc m))) (λ n. received_of (suc m) gains (λ port. useful_at (grids port) n)) (λ n. times (gains (suc m)) (useful_at (grids (suc m)) n))
    (received_of (suc m) gains (λ port. grids port k)) (times (gains (suc m)) (grids (suc m) k)) k
    (sent_by_all (suc m) gains grids k (omega arith) (λ port few. small port (omega (arith, few))) l) (sent_by_one (gains (suc m)) (grids (suc m)) k (small (suc m) (omega arith)) l))
  where
    more : (n u : ℕ) → n * u + u ≡ suc n * u
    more n u = omega arith

by_all : (ports quota most a b : ℕ) → AreUnits ports quota most a b → AmplitudesAreSeen ports quota most
by_all ports quota most a b units gains grids samples k small received l = record {
  off = is_seen ports quota most a b units (energy_below ports gains) (λ n. received_of ports gains (λ port. useful_at (grids port) n)) samples (received_of ports gains (λ port. grids port k)) k
      received.sounds (sent_by_all ports gains grids k units.some small l) received.quiet;
}

all_in_recording : (ports quota most : ℕ) → AmplitudesAreSeen ports quota most → AmplitudesAreSeenInRecording ports quota most
unfolding seen
all_in_recording ports quota most are gains grids recording start k small received l = are gains grids (samples_from recording start) k small received l

-- two ports: 2 * 97^2 is below 138^2
units_of_two : AreUnits 2 400 1464 138 227
units_of_two = record { some = omega arith; sending = λ n s h. omega (arith, h); errors = λ n s h. omega (arith, h); whole = λ n s h. omega (arith, h) }

pub two_amplitudes_are_seen : AmplitudesAreSeen 2 400 1464
two_amplitudes_are_seen = by_all 2 400 1464 138 227 units_of_two

pub two_amplitudes_are_seen_in_recording : AmplitudesAreSeenInRecording 2 400 1464
two_amplitudes_are_seen_in_recording = all_in_recording 2 400 1464 two_amplitudes_are_seen

-- four ports: 4 * 97^2 is 194^2
units_of_four : AreUnits 4 7 900 194 30
units_of_four = record { some = omega arith; sending = λ n s h. omega (arith, h); errors = λ n s h. omega (arith, h); whole = λ n s h. omega (arith, h) }

pub four_amplitudes_are_seen : AmplitudesAreSeen 4 7 900
four_amplitudes_are_seen = by_all 4 7 900 194 30 units_of_four

pub four_amplitudes_are_seen_in_recording : AmplitudesAreSeenInRecording 4 7 900
four_amplitudes_are_seen_in_recording = all_in_recording 4 7 900 four_amplitudes_are_seen

-- two ports, with error energy of 64 times the sum: 91 units
units_of_quiet_two : AreUnits 2 64 1024 138 91
units_of_quiet_two = record { some = omega arith; sending = λ n s h. omega (arith, h); errors = λ n s h. omega (arith, h); whole = λ n s h. omega (arith, h) }

pub quiet_two_are_seen : AmplitudesAreSeen 2 64 1024
quiet_two_are_seen = by_all 2 64 1024 138 91 units_of_quiet_two

pub quiet_two_are_seen_in_recording : AmplitudesAreSeenInRecording 2 64 1024
quiet_two_are_seen_in_recording = all_in_recording 2 64 1024 quiet_two_are_seen

-- four ports, with error energy of 4 times the sum: 23 units
units_of_quiet_four : AreUnits 4 4 872 194 23
units_of_quiet_four = record { some = omega arith; sending = λ n s h. omega (arith, h); errors = λ n s h. omega (arith, h); whole = λ n s h. omega (arith, h) }

pub quiet_four_are_seen : AmplitudesAreSeen 4 4 872
quiet_four_are_seen = by_all 4 4 872 194 23 units_of_quiet_four

pub quiet_four_are_seen_in_recording : AmplitudesAreSeenInRecording 4 4 872
quiet_four_are_seen_in_recording = all_in_recording 4 4 872 quiet_four_are_seen
