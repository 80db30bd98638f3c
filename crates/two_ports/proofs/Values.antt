-- A pair's soft values: each component of a decision variable outweighs all ports' pilot energy.
use Rattle.std.proofs.Common.{◌≡◌, ℕ, zero, suc, ◌+◌, ◌*◌, ◌^◌, ◌/◌, ◌%◌, ◌<◌, ◌≤◌, ◌≢◌, arith, refl, subst, Bool, true, false, mul-le-mul_left, mul-le-mul_right, le_of_mul-le-mul_right}
use Rattle.cs_num.specs.declared.Cpx.{Cpx}
use Rattle.cs_num.specs.Complex.{plus, times, conjugate, negated, minus, multiple, square}
use Rattle.norms.specs.Magnitudes.{energy_below}
use Rattle.lte_types.specs.declared.carrier.Carrier.{Carrier}
use Rattle.lte_types.specs.Carrier.{ports_of}
use Rattle.crs.specs.Qpsk.{point}
use Rattle.soft_bits.specs.Lines.{line_of, port_channel, ports_energy}
use Rattle.soft_bits.specs.Pairs.{Pairing, over_two, first_point, second_point}
use Rattle.soft_bits.specs.Soft.{SeenSlot}
use Rattle.budget.specs.Received.{in_parts, IsSeenBy}
use Rattle.budget.proofs.Near.{near-off}
use Rattle.budget.proofs.Signs.{near_component_speaks}
use Rattle.two_ports.specs.Received.{over, ArePortsSeen, SpeakWith, PairValuesSpeak, QuietPairValuesSpeak}
use Rattle.two_ports.proofs.Points.{AreRoots, AreEstimates, pair_is_combined}
use Rattle.two_ports.proofs.Estimates.{received_of_two, pilots_alone, port_channel-near}
use Rattle.two_ports.proofs.Energies.{squares, AreEnergies, energies}

-- ---- a pairing, and its soft values' margins

pub record IsPairing (pairing : Pairing) : Type 0 where
  pub lower : (i : ℕ) → pairing.lower i < ports_of pairing.carrier
  pub upper : (i : ℕ) → pairing.upper i < ports_of pairing.carrier
  pub apart : (i : ℕ) → pairing.lower i ≢ pairing.upper i
  pub by_three : pairing.scale % 3 ≡ 0
  pub by_six : 2 < ports_of pairing.carrier → pairing.scale % 6 ≡ 0

-- the scale factor is a multiple of each port's pilot spacing
whole_times : (carrier : Carrier) (port scale : ℕ) (slot : SeenSlot) → scale % 3 ≡ 0 → (1 < port → scale % 6 ≡ 0) → scale / (line_of carrier port slot).step * (line_of carrier port slot).step ≡ scale
whole_times carrier zero scale slot three six = omega (arith, three)
whole_times carrier (suc zero) scale slot three six = omega (arith, three)
whole_times carrier (suc (suc n)) scale slot three six = let e = six (omega arith) in omega (arith, e)

-- The margins for a pairing's soft values. N is the total square of all gains, and M that of a pair's gains. Errors are
-- squared, in units of 2^-14.
pub record Margins : Type 0 where
  -- each observed symbol's squared error is at most `most` squared times N
  pub most : ℕ
  -- how the pilot energy is split between signal and errors: any number from 1
  pub weight : ℕ
  -- M is at least `part` / `whole` times N
  pub part : ℕ
  pub whole : ℕ
  -- a channel estimate's squared error is at most `estimate` times M, and an observed symbol's at most `seen` times M
  pub estimate : ℕ
  pub seen : ℕ
  -- rounded-up roots: of twice `seen`, 64800 times `estimate`, and four times their product
  pub seen_root : ℕ
  pub estimate_root : ℕ
  pub both_root : ℕ
  -- 2^28 times the pilot energy is at most `energy` times M
  pub energy : ℕ
  -- each value's minimum magnitude
  pub least : ℕ

pub record AreMargins (pairing : Pairing) (m : Margins) : Type 0 where
  pub some : 1 ≤ m.part
  pub weighs : 1 ≤ m.weight
  pub roots : AreRoots m.estimate m.seen m.seen_root m.estimate_root m.both_root
  pub estimates : pairing.scale * m.most * (pairing.scale * m.most) * 16200 * m.whole ≤ m.estimate * m.part
  pub sees : m.most * m.most * m.whole ≤ m.seen * m.part
  pub sounds : ports_of pairing.carrier * (2 * (m.most * m.most)) < 66355200
  pub energies : (24 * ((m.weight + 1) * 66355200) + ports_of pairing.carrier * (24 * (m.weight * (m.weight + 1) * (m.most * m.most)))) * m.whole ≤ m.energy * m.weight * m.part
  pub speak : 1 ≤ m.least
  pub fit : m.least ≤ 127
  pub speaks : m.least * m.energy + 6 * (pairing.scale * 1036800 * m.seen_root + (64 * m.estimate_root + m.both_root)) ≤ 540 * (pairing.scale * 1036800 * 64)

-- a bound by N gives a bound by M, since a pair's gains have their part
by_part : (a b part whole s n m q : ℕ) → 1 ≤ part → a * whole ≤ s * part → part * n ≤ whole * m → b ≤ a * n → q ≤ b → q ≤ s * m
by_part a b part whole s n m q some fits share few h =
    let x : q * part ≤ a * n * part = mul-le-mul_right part (omega (arith, few, h)) in
    let y : a * (part * n) ≤ a * (whole * m) = mul-le-mul_left a share in
    let z : a * whole * m ≤ s * part * m = mul-le-mul_right m fits in
    le_of_mul-le-mul_right (let all : q * part ≤ s * m * part = omega (arith, x, y, z) in all) some

regrouped : (a b n : ℕ) → a * (b * n) ≤ a * b * n
regrouped a b n = omega arith

-- the pilot energy is not 0
some_energy : (ports weight most n q : ℕ) → ports * (2 * (most * most)) < 66355200 → 2 ^ 28 ≤ n → AreEnergies ports weight most n q → 1 ≤ q
some_energy ports weight most n q few sounds energy =
    let least = energy.least in
    let k : ports * (2 * (most * most)) * n ≤ 66355199 * n = mul-le-mul_right n (omega (arith, few)) in
    omega (arith, sounds, least, k)

-- 2^28 times the pilot energy is at most e times M
most_energy : (ports weight most part whole e n m q : ℕ) → 1 ≤ part → 1 ≤ weight → (24 * ((weight + 1) * 66355200) + ports * (24 * (weight * (weight + 1) * (most * most)))) * whole ≤ e * weight * part →
    part * n ≤ whole * m → AreEnergies ports weight most n q → 2 ^ 28 * q ≤ e * m
most_energy ports weight most part whole e n m q some weighs fits share energy =
    let high = energy.high in
    let h : ℕ = 24 * ((weight + 1) * 66355200) + ports * (24 * (weight * (weight + 1) * (most * most))) in
    let all : weight * 2 ^ 28 * q ≤ e * weight * m = by_part h _ part whole (e * weight) n m (weight * 2 ^ 28 * q) some fits share (omega arith) high in
    le_of_mul-le-mul_right (let turned : 2 ^ 28 * q * weight ≤ e * m * weight = omega (arith, all) in turned) weighs

-- each pair's gains have at least this part of the total square
pub record HavePart (pairing : Pairing) (part whole : ℕ) (gains : ℕ → Cpx) : Type 0 where
  pub each : (i : ℕ) → part * energy_below (ports_of pairing.carrier) gains ≤ whole * (square (gains (pairing.lower i)) + square (gains (pairing.upper i)))

point-small : (first second : Bool) → square (point first second) ≤ 16200
point-small false false = omega arith
point-small false true = omega arith
point-small true false = omega arith
point-small true true = omega arith

module _ (pairing : Pairing) (m : Margins) (is : IsPairing pairing) (margins : AreMargins pairing m) (gains : ℕ → Cpx) (have : HavePart pairing m.part m.whole gains) where
  abbrev n : ℕ
  n = energy_below (ports_of pairing.carrier) gains

  -- the total square of pair i's gains
  abbrev pair_squares : ℕ → ℕ
  pair_squares i = square (gains (pairing.lower i)) + square (gains (pairing.upper i))

  -- the channel estimate for a port in pair i
  channel_off : (slot : SeenSlot) (i port k : ℕ) → port < ports_of pairing.carrier → ArePortsSeen pairing.carrier m.most gains slot →
      square (minus (in_parts (port_channel pairing.scale pairing.carrier port slot k)) (multiple (pairing.scale * 1036800) (gains port))) ≤ m.estimate * pair_squares i
  channel_off slot i port k few seen =
      let scale : ℕ = pairing.scale in
      let whole_count = whole_times pairing.carrier port scale slot is.by_three (λ high. is.by_six (omega (arith, high, few))) in
      let near = port_channel-near m.most n scale pairing.carrier port (gains port) slot k whole_count (pilots_alone pairing.carrier m.most gains slot seen port few) in
      let off = near-off (16200 * n) (gains port) (port_channel scale pairing.carrier port slot k) (scale * 1036800) (scale * m.most) near in
      by_part (scale * m.most * (scale * m.most) * 16200) _ m.part m.whole m.estimate n _ _ margins.some margins.estimates (have.each i) (regrouped (scale * m.most * (scale * m.most)) 16200 n) off

  seen_off : (i : ℕ) (x y z : Cpx) → IsSeenBy (ports_of pairing.carrier) m.most gains (over (pairing.lower i) (pairing.upper i) x y) z →
      square (minus (in_parts z) (multiple 64 (plus (times (gains (pairing.lower i)) x) (times (gains (pairing.upper i)) y)))) ≤ m.seen * pair_squares i
  seen_off i x y z is_seen =
      by_part (m.most * m.most) _ m.part m.whole m.seen n _ _ margins.some margins.sees (have.each i) (omega arith)
      (subst (λ (a : Cpx). square (minus (in_parts z) (multiple 64 a)) ≤ m.most * m.most * n)
      (received_of_two (ports_of pairing.carrier) (pairing.lower i) (pairing.upper i) gains x y (is.lower i) (is.upper i) (is.apart i)) is_seen.off)

  pub values_speak : SpeakWith gains pairing m.most m.least
  values_speak slot i k b c d f at_first at_second ports pair =
      let g : Cpx = gains (pairing.lower i) in
      let o : Cpx = gains (pairing.upper i) in
      let h : Cpx = port_channel pairing.scale pairing.carrier (pairing.lower i) slot k in
      let r : Cpx = port_channel pairing.scale pairing.carrier (pairing.upper i) slot k in
      let q : ℕ = ports_energy pairing.carrier slot in
      let energy = energies pairing.carrier m.weight m.most gains slot ports in
      let some : 1 ≤ q = some_energy (ports_of pairing.carrier) m.weight m.most n q margins.sounds ports.sounds energy in
      let few : 2 ^ 28 * q ≤ m.energy * pair_squares i = most_energy (ports_of pairing.carrier) m.weight m.most m.part m.whole m.energy n (pair_squares i) q margins.some margins.weighs margins.energies (have.each i) energy in
      let estimates : AreEstimates (pairing.scale * 1036800) m.estimate g o (in_parts h) (in_parts r) = record {
        off = channel_off slot i (pairing.lower i) k (is.lower i) ports;
        other_off = channel_off slot i (pairing.upper i) k (is.upper i) ports;
      } in
      let near = pair_is_combined (pairing.scale * 1036800) m.estimate m.seen m.seen_root m.estimate_root m.both_root margins.roots g o h r (point b c) (point d f) at_first at_second estimates (point-small b c) (point-small d f)
      (record { first = seen_off i (point b c) (negated (conjugate (point d f))) at_first pair.first; second = seen_off i (point d f) (conjugate (point b c)) at_second pair.second }) in
      let speaks = near_component_speaks m.least (pairing.scale * 1036800 * 64) (pairing.scale * 1036800 * m.seen_root + (64 * m.estimate_root + m.both_root)) m.energy margins.speak margins.fit margins.speaks (2 ^ 28) (pair_squares i) q in
      record {
        first = speaks b (first_point h r at_first at_second).re (omega arith) some few near.0.within.re;
        second = speaks c (first_point h r at_first at_second).im (omega arith) some few near.0.within.im;
        third = speaks d (second_point h r at_first at_second).re (omega arith) some few near.1.within.re;
        fourth = speaks f (second_point h r at_first at_second).im (omega arith) some few near.1.within.im;
      }

-- ---- two ports

is_over_two : IsPairing over_two
is_over_two = record { lower = λ i. omega arith; upper = λ i. omega arith; apart = λ i. omega arith; by_three = refl; by_six = λ more. omega (arith, more) }

both : (gains : ℕ → Cpx) → HavePart over_two 1 1 gains
both gains = record { each = λ i. all }
  where
    all : 1 * energy_below 2 gains ≤ 1 * (square (gains 0) + square (gains 1))
    all = let same = squares gains in omega (arith, same)

-- 2 * 1464^2 is below 2071^2; the energy's 2505047040, and six times 17185671867, are less than 540 * 199065600. With
-- 1492 in place of 1464 they are more, so that no quota of 425 follows.
abbrev two_margins : Margins
two_margins = record {
  most = 1464;
  weight = 4;
  part = 1;
  whole = 1;
  estimate = 312492556800;
  seen = 2143296;
  seen_root = 2071;
  estimate_root = 142300800;
  both_root = 1636782267;
  energy = 2505047040;
  least = 1;
}

two_margins_hold : AreMargins over_two two_margins
two_margins_hold = grind arith

pub pair_values_speak : PairValuesSpeak
pair_values_speak gains = values_speak over_two two_margins is_over_two two_margins_hold gains (both gains)

-- with smaller errors: 2 * 1024^2 is below 1449^2; 16 times the energy's 2244575232, and six times 11678307840, are
-- less than 540 * 199065600
abbrev quiet_margins : Margins
quiet_margins = record {
  most = 1024;
  weight = 8;
  part = 1;
  whole = 1;
  estimate = 152882380800;
  seen = 1048576;
  seen_root = 1449;
  estimate_root = 99532800;
  both_root = 801239040;
  energy = 2244575232;
  least = 16;
}

quiet_margins_hold : AreMargins over_two quiet_margins
quiet_margins_hold = grind arith

pub quiet_pair_values_speak : QuietPairValuesSpeak
quiet_pair_values_speak gains = values_speak over_two quiet_margins is_over_two quiet_margins_hold gains (both gains)
