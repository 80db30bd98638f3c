-- PDSCH resource elements per resource block, by transmission scheme and indicator.
use Rattle.std.proofs.Common.{ℕ, ◌*◌, ◌%◌, ◌<◌, ◌≤◌, ◌≡◌, Bool, true, false, cond, nat_eq, refl, sym, subst, arith}
use Rattle.lte_types.specs.declared.carrier.Carrier.{Carrier}
use Rattle.lte_types.specs.declared.carrier.Carrier.TheVariants.{OnePort, TwoPorts, LongPrefix, FourPorts}
use Rattle.lte_types.specs.Carrier.{ports_of}
use Rattle.grid_map.specs.Shared.{block_places_of}

-- PDSCH resource elements per resource block with indicator 2, and with 3
abbrev counts : Carrier → Bool → ℕ
counts OnePort first = cond first 102 90
counts TwoPorts first = cond first 96 84
counts LongPrefix first = cond first 78 68
counts FourPorts first = cond first 92 80

pub counted : (carrier : Carrier) (cfi : ℕ) → block_places_of carrier cfi ≡ counts carrier (nat_eq cfi 2)
counted OnePort cfi = refl
counted TwoPorts cfi = refl
counted LongPrefix cfi = refl
counted FourPorts cfi = refl

-- an even number, at least 68, at most that for one port, and at most 96 with several ports
pub record AreFew (carrier : Carrier) (first : Bool) (places : ℕ) : Type 0 where
  pub even : (blocks : ℕ) → (places * blocks) % 2 ≡ 0
  pub least : 68 ≤ places
  pub most : places ≤ counts OnePort first
  pub fewer : 1 < ports_of carrier → places ≤ 96

few : (carrier : Carrier) (first : Bool) → AreFew carrier first (counts carrier first)
few OnePort true = record { even = λ blocks. omega arith; least = omega arith; most = omega arith; fewer = λ l. absurd (omega (arith, l)) }
few OnePort false = record { even = λ blocks. omega arith; least = omega arith; most = omega arith; fewer = λ l. absurd (omega (arith, l)) }
few TwoPorts true = record { even = λ blocks. omega arith; least = omega arith; most = omega arith; fewer = λ l. omega arith }
few TwoPorts false = record { even = λ blocks. omega arith; least = omega arith; most = omega arith; fewer = λ l. omega arith }
few LongPrefix true = record { even = λ blocks. omega arith; least = omega arith; most = omega arith; fewer = λ l. omega arith }
few LongPrefix false = record { even = λ blocks. omega arith; least = omega arith; most = omega arith; fewer = λ l. omega arith }
few FourPorts true = record { even = λ blocks. omega arith; least = omega arith; most = omega arith; fewer = λ l. omega arith }
few FourPorts false = record { even = λ blocks. omega arith; least = omega arith; most = omega arith; fewer = λ l. omega arith }

pub are_few : (carrier : Carrier) (cfi : ℕ) → AreFew carrier (nat_eq cfi 2) (block_places_of carrier cfi)
are_few carrier cfi = subst (AreFew carrier (nat_eq cfi 2)) (sym (counted carrier cfi)) (few carrier (nat_eq cfi 2))

-- at most 102 for every indicator
pub at_most : (carrier : Carrier) (cfi : ℕ) → block_places_of carrier cfi ≤ 102
at_most carrier cfi = below (nat_eq cfi 2) (are_few carrier cfi).most
  where
    below : (first : Bool) {places : ℕ} → places ≤ cond first 102 90 → places ≤ 102
    below true l = l
    below false l = omega (arith, l)
