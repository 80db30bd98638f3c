-- Pilots in one symbol of a received slot differ little, compared with the gain and with their energy.
use Rattle.std.proofs.Common.{◌≡◌, ℕ, ◌+◌, ◌*◌, ◌^◌, ◌/◌, ◌<◌, ◌≤◌, arith, ap, ap₂, sym, ◌∙◌, subst, ℤ, ◌+ℤ◌, ◌-ℤ◌}
use Rattle.std.proofs.lemmas.Int.{ints}
use Rattle.finite.proofs.Sums.{total_below-within}
use Rattle.cs_num.specs.declared.Cpx.{Cpx}
use Rattle.cs_num.specs.Complex.{plus, square, minus, multiple}
use Rattle.cs_num.proofs.Complex.{pair}
use Rattle.norms.proofs.Algebra.{plus-minus, minus-plus, multiple-plus}
use Rattle.norms.proofs.TwoTerms.{weighted_term}
use Rattle.crs.specs.Reference.{port_0}
use Rattle.soft_bits.specs.Soft.{SeenSlot, pilot, pilot_energy}
use Rattle.budget.specs.Received.{in_parts}
use Rattle.budget.proofs.Near.{IsNear, near-multiple, near-plus}
use Rattle.budget.proofs.Parts.{square_in_parts, energy_in_parts}
use Rattle.evidence.specs.Evidence.{noise_of, second_difference, differences}
use Rattle.clean_air.specs.Values.{ArePilotsSeen}
use Rattle.clean_air.proofs.Estimates.{pilot-near}
use Rattle.clean_air.proofs.SoftValues.{energy-near}

-- the difference between two numbers that are close to one multiple of a gain
rest : (m a b : Cpx) → plus (minus (plus m b) (plus m a)) a ≡ b
rest m a b = pair (part m.re a.re b.re) (part m.im a.im b.im)
  where
    part : (m a b : ℤ) → m +ℤ b -ℤ (m +ℤ a) +ℤ a ≡ b
    part m a b = omega (arith, ints)

difference_in_parts : (x y : Cpx) → in_parts (minus y x) ≡ minus (in_parts y) (in_parts x)
difference_in_parts x y =
    sym (minus-plus (in_parts x) (in_parts (minus y x)))
    ∙ ap (λ (z : Cpx). minus z (in_parts x)) (sym (multiple-plus 16384 x (minus y x)) ∙ ap in_parts (plus-minus y x))

near_step : (n : ℕ) (gain : Cpx) (c t : ℕ) (x y : Cpx) → IsNear n gain c t x → IsNear n gain c t y → square (in_parts (minus y x)) ≤ 4 * (t * t * n)
near_step n gain c t x y p q =
    let m : Cpx = multiple c gain in
    let s : Cpx = minus (plus m q.off) (plus m p.off) in
    subst (λ (z : Cpx). square z ≤ 4 * (t * t * n)) (sym (difference_in_parts x y ∙ ap₂ minus q.is p.is))
    (numbers (square s) (square (plus s p.off)) (square p.off) (square q.off) (t * t * n) (weighted_term 1 s p.off) (ap (λ (z : Cpx). square z) (rest m p.off q.off)) p.small.bounded q.small.bounded)
  where
    numbers : (s v a b k : ℕ) → 1 * s ≤ (1 + 1) * v + 1 * (1 + 1) * a → v ≡ b → a ≤ k → b ≤ k → s ≤ 4 * k
    numbers s v a b k h same p q = omega (arith, h, same, p, q)

-- ---- the differences

module _ (most : ℕ) (gain : Cpx) (slot : SeenSlot) (seen : ArePilotsSeen most gain slot) where
  near : (i : ℕ) → i < 24 → IsNear (square gain) gain 1036800 (128 * most) (pilot slot i)
  near i l = pilot-near most port_0 gain slot i l seen

  twice : (i : ℕ) → i < 24 → IsNear (square gain) gain 2073600 (256 * most) (multiple 2 (pilot slot i))
  twice i l =
      subst (λ t. IsNear (square gain) gain 2073600 t (multiple 2 (pilot slot i))) (let e : 2 * (128 * most) ≡ 256 * most = omega arith in e)
      (near-multiple (square gain) gain (pilot slot i) 2 1036800 (128 * most) (near i l))

  both : (i j : ℕ) → i < 24 → j < 24 → IsNear (square gain) gain 2073600 (256 * most) (plus (pilot slot i) (pilot slot j))
  both i j k l =
      subst (λ t. IsNear (square gain) gain 2073600 t (plus (pilot slot i) (pilot slot j))) (let e : 128 * most + 128 * most ≡ 256 * most = omega arith in e)
      (near-plus (square gain) gain (pilot slot i) (pilot slot j) 1036800 1036800 (128 * most) (128 * most) (near i k) (near j l))

  one_difference : (i : ℕ) → i < 20 → square (in_parts (second_difference 2 (pilot slot) i)) ≤ 4 * (256 * most * (256 * most) * square gain)
  one_difference i l =
      near_step (square gain) gain 2073600 (256 * most) (multiple 2 (pilot slot (i + 2))) (plus (pilot slot i) (pilot slot (i + 4)))
      (twice (i + 2) (omega (arith, l))) (both i (i + 4) (omega (arith, l)) (omega (arith, l)))

  all_differences : 268435456 * differences 24 2 (pilot slot) ≤ 20 * (4 * (256 * most * (256 * most) * square gain))
  unfolding differences
  all_differences =
      subst (λ s. s ≤ 20 * (4 * (256 * most * (256 * most) * square gain))) (energy_in_parts 20 (second_difference 2 (pilot slot)))
      (total_below-within 20 (4 * (256 * most * (256 * most) * square gain)) (λ i. square (in_parts (second_difference 2 (pilot slot) i))) one_difference)

-- ---- the noise

-- the noise for a gain in units of 2^-14, if each pilot is off by at most 2316 times its magnitude
pub record AreSteady (gain : Cpx) (slot : SeenSlot) : Type 0 where
  pub small : 2 ^ 28 * noise_of (differences 24 2 (pilot slot)) ≤ 289321537 * square gain
  pub quiet : 8 * noise_of (differences 24 2 (pilot slot)) ≤ 3 * pilot_energy slot

pub are_steady : (gain : Cpx) (slot : SeenSlot) → ArePilotsSeen 2316 gain slot → AreSteady gain slot
are_steady gain slot seen =
    let small = mean (square gain) (differences 24 2 (pilot slot)) (all_differences 2316 gain slot seen) in
    record { small = small; quiet = share (square gain) (noise_of (differences 24 2 (pilot slot))) (pilot_energy slot) small (energy-near 2316 port_0 gain slot seen).near }
  where
    mean : (n s : ℕ) → 268435456 * s ≤ 20 * (4 * (256 * 2316 * (256 * 2316) * n)) → 2 ^ 28 * (s / 97200) ≤ 289321537 * n
    mean n s h = omega (arith, h)

    share : (n m e : ℕ) → 2 ^ 28 * m ≤ 289321537 * n → 49766400 * (24 * n) ≤ 2 ^ 28 * e + 3 * (2316 * 2316 * (24 * n)) → 8 * m ≤ 3 * e
    share n m e h k = omega (arith, h, k)

-- the noise for an integer gain, if each pilot is off by at most 1920 times its magnitude
pub record AreQuiet (gain : Cpx) (slot : SeenSlot) : Type 0 where
  pub small : noise_of (differences 24 2 (pilot slot)) ≤ 198841079 * square gain
  pub quiet : 4 * noise_of (differences 24 2 (pilot slot)) ≤ pilot_energy slot

pub are_quiet : (gain : Cpx) (slot : SeenSlot) → ArePilotsSeen 1920 (in_parts gain) slot → AreQuiet gain slot
are_quiet gain slot seen =
    let small = mean (square gain) (square (in_parts gain)) (differences 24 2 (pilot slot)) (square_in_parts gain) (all_differences 1920 (in_parts gain) slot seen) in
    record { small = small; quiet = share (square gain) (square (in_parts gain)) (noise_of (differences 24 2 (pilot slot))) (pilot_energy slot) (square_in_parts gain) small (energy-near 1920 port_0 (in_parts gain) slot seen).near }
  where
    mean : (n p s : ℕ) → p ≡ 268435456 * n → 268435456 * s ≤ 20 * (4 * (256 * 1920 * (256 * 1920) * p)) → s / 97200 ≤ 198841079 * n
    mean n p s same h = omega (arith, same, h)

    share : (n p m e : ℕ) → p ≡ 268435456 * n → m ≤ 198841079 * n → 49766400 * (24 * p) ≤ 2 ^ 28 * e + 3 * (1920 * 1920 * (24 * p)) → 4 * m ≤ e
    share n p m e same h k = omega (arith, same, h, k)
