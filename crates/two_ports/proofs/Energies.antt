-- Pilot energy for several ports, in terms of their gains' squares.
use Rattle.std.proofs.Common.{◌≡◌, ℕ, zero, suc, ◌+◌, ◌*◌, ◌^◌, ◌/◌, ◌<◌, ◌≤◌, arith, ap, mul-le-mul_left, mul-le-mul_right}
use Rattle.finite.specs.Sums.{total_below}
use Rattle.finite.proofs.Sums.{total_below-term}
use Rattle.cs_num.specs.declared.Cpx.{Cpx}
use Rattle.cs_num.specs.Complex.{square}
use Rattle.norms.specs.Magnitudes.{energy_below, squares_of_four}
use Rattle.lte_types.specs.declared.carrier.Carrier.{Carrier}
use Rattle.lte_types.specs.Carrier.{ports_of}
use Rattle.soft_bits.specs.Lines.{Line, line_of, line_seen, line_energy, port_energy, ports_energy}
use Rattle.soft_bits.specs.Soft.{SeenSlot}
use Rattle.soft_bits.proofs.Lines.{IsLine, is_line}
use Rattle.budget.proofs.Pilots.{IsPilotSquare, pilot-square}
use Rattle.two_ports.specs.Received.{ArePortsSeen}
use Rattle.two_ports.proofs.Estimates.{AreLinePilots, pilots_alone}

-- ---- weighted sums

sums-within : (n x y c : ℕ) (f w : ℕ → ℕ) → ((p : ℕ) → p < n → x * f p ≤ y * w p + c) → x * total_below n f ≤ y * total_below n w + n * c
unfolding total_below
sums-within zero x y c f w each = omega arith
sums-within (suc n) x y c f w each =
    let before = sums-within n x y c f w (λ p l. each p (omega (arith, l))) in
    let here = each n (omega arith) in
    omega (arith, before, here)

-- ---- squares of gains

-- the sum of two squares, and of four
pub squares : (gains : ℕ → Cpx) → energy_below 2 gains ≡ square (gains 0) + square (gains 1)
unfolding total_below
squares gains = in_turn (square (gains 0)) (square (gains 1))
  where
    in_turn : (a b : ℕ) → 0 + a + b ≡ a + b
    in_turn a b = omega arith

pub four_squares : (gains : ℕ → Cpx) → energy_below 4 gains ≡ squares_of_four gains
unfolding total_below
four_squares gains = in_turn (square (gains 0)) (square (gains 1)) (square (gains 2)) (square (gains 3))
  where
    in_turn : (a b c d : ℕ) → 0 + a + b + c + d ≡ a + b + c + d
    in_turn a b c d = omega arith

-- ---- one port: w is its gain's square, and n the sum of all squares

record IsEnergyOf (weight most n w e : ℕ) : Type 0 where
  least : 66355200 * w ≤ 2 ^ 29 * e + 2 * (most * most * n)
  high : weight * 2 ^ 28 * e ≤ 24 * ((weight + 1) * 66355200) * w + 24 * (weight * (weight + 1) * (most * most * n))

-- the energy of `count` pilots, each counted `share` times so that there are 24
of_pilots : (share count weight most n w : ℕ) (f : ℕ → ℕ) → 1 ≤ share → share * count ≡ 24 → 0 < count → ((m i : ℕ) → i < count → IsPilotSquare m most n w (f i)) →
    IsEnergyOf weight most n w (share * total_below count f)
of_pilots share count weight most n w f counted room some each = record {
  least = more (f 0) (total_below count f) (each 1 0 some).least (total_below-term count 0 f some);
  high = times_share (total_below count f) (total_below count (λ i. 0)) (sums-within count (weight * 2 ^ 28) 0 bound f (λ i. 0) (λ i l. each_most (f i) (each weight i l).most));
}
  where
    bound : ℕ
    bound = (weight + 1) * (66355200 * w) + weight * (weight + 1) * (most * most * n)

    more : (e q : ℕ) → 1 * (66355200 * w) ≤ (1 + 1) * (2 ^ 28 * e) + 1 * (1 + 1) * (most * most * n) → e ≤ q → 66355200 * w ≤ 2 ^ 29 * (share * q) + 2 * (most * most * n)
    more e q h l = let k : 1 * q ≤ share * q = mul-le-mul_right q counted in omega (arith, h, l, k)

    each_most : (e : ℕ) → weight * (2 ^ 28 * e) ≤ (weight + 1) * (66355200 * w) + weight * (weight + 1) * (most * most * n) → weight * 2 ^ 28 * e ≤ 0 * 0 + bound
    each_most e h = omega (arith, h)

    times_share : (e z : ℕ) → weight * 2 ^ 28 * e ≤ 0 * z + count * bound → weight * 2 ^ 28 * (share * e) ≤ 24 * ((weight + 1) * 66355200) * w + 24 * (weight * (weight + 1) * (most * most * n))
    times_share e z h =
        let k : share * (weight * 2 ^ 28 * e) ≤ share * (0 * z + count * bound) = mul-le-mul_left share h in
        let all : share * count * bound ≡ 24 * bound = ap (λ (m : ℕ). m * bound) room in
        omega (arith, k, all)

energy_of_line : (weight most n : ℕ) (gain : Cpx) (line : Line) (slot : SeenSlot) → IsLine line → AreLinePilots most n gain line slot →
    IsEnergyOf weight most n (square gain) (line.step / 3 * line_energy line slot)
unfolding line_energy
energy_of_line weight most n gain line slot is pilots =
    of_pilots (line.step / 3) (line.last + 1) weight most n (square gain) (λ i. square (line_seen line slot i)) is.counted is.room (omega arith)
    (λ m i l. pilot-square m most n gain (line.sent i) (line_seen line slot i) (pilots.each i (omega (arith, l))))

-- ---- all ports

pub record AreEnergies (ports weight most n q : ℕ) : Type 0 where
  pub least : 66355200 * n ≤ 2 ^ 29 * q + ports * (2 * (most * most * n))
  pub high : weight * 2 ^ 28 * q ≤ 24 * ((weight + 1) * 66355200) * n + ports * (24 * (weight * (weight + 1) * (most * most * n)))

pub energies : (carrier : Carrier) (weight most : ℕ) (gains : ℕ → Cpx) (slot : SeenSlot) → ArePortsSeen carrier most gains slot →
    AreEnergies (ports_of carrier) weight most (energy_below (ports_of carrier) gains) (ports_energy carrier slot)
unfolding ports_energy
energies carrier weight most gains slot seen =
    let ports : ℕ = ports_of carrier in
    let n : ℕ = energy_below ports gains in
    let energy : ℕ → ℕ = port_energy carrier slot in
    let each : (port : ℕ) → port < ports → IsEnergyOf weight most n (square (gains port)) (energy port) =
    (λ port l. energy_of_line weight most n (gains port) (line_of carrier port slot) slot (is_line carrier port slot) (pilots_alone carrier most gains slot seen port l)) in
    record {
      least = sums-within ports 66355200 (2 ^ 29) (2 * (most * most * n)) (λ port. square (gains port)) energy (λ port l. (each port l).least);
      high = sums-within ports (weight * 2 ^ 28) (24 * ((weight + 1) * 66355200)) (24 * (weight * (weight + 1) * (most * most * n))) energy (λ port. square (gains port)) (λ port l. (each port l).high);
    }
