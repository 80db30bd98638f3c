-- Reference places by their spacing: each port has every sixth subcarrier of a symbol, and two ports whose first ones
-- are three apart together have every third.
use Rattle.std.proofs.Common.{◌≡◌, ℕ, ◌+◌, ◌%◌, ◌<◌, Bool, true, false, ◌&&◌, ◌||◌, cond, nat_eq, refl, ap, sym, ◌∙◌, eq-eqb, eqb-true, arith}
use Rattle.std.proofs.lemmas.Bool.Decides.{nat_tests}
use Rattle.crs.specs.Reference.{upper_first}

-- every sixth subcarrier from a first one, and from the one three further on: every third
pub every_third : (first second third k : ℕ) → first < 6 → second ≡ (first + 3) % 6 → third ≡ first % 3 →
    (nat_eq (k % 6) first || nat_eq (k % 6) second) ≡ nat_eq (k % 3) third
every_third first second third k few apart same = by (nat_eq (k % 3) third) refl
  where
    by : (b : Bool) → nat_eq (k % 3) third ≡ b → (nat_eq (k % 6) first || nat_eq (k % 6) second) ≡ b
    by true e = grind (arith, nat_tests, few, apart, same)
    by false e = grind (arith, nat_tests, few, apart, same)

-- no subcarrier is both
pub never_both : (has : Bool) (first second k : ℕ) → first < 6 → second ≡ (first + 3) % 6 → (has && nat_eq (k % 6) first) ≡ true →
    (has && nat_eq (k % 6) second) ≡ true → ⊥
never_both true first second k few apart one other =
    let a : k % 6 ≡ first = eqb-true (k % 6) first one in
    let b : k % 6 ≡ second = eqb-true (k % 6) second other in
    absurd (omega (arith, few, apart, a, b))
never_both false first second k few apart one other = absurd cc

-- ---- ports 0 and 1, in the first symbol of a slot or in the later one

pub lower_third : (zeroth : Bool) (identity k : ℕ) →
    (nat_eq (k % 6) ((cond zeroth 0 3 + identity) % 6) || nat_eq (k % 6) ((cond zeroth 3 0 + identity) % 6)) ≡ nat_eq (k % 3) (identity % 3)
lower_third true identity k = every_third ((0 + identity) % 6) ((3 + identity) % 6) (identity % 3) k (omega arith) (omega arith) (omega arith)
lower_third false identity k = every_third ((3 + identity) % 6) ((0 + identity) % 6) (identity % 3) k (omega arith) (omega arith) (omega arith)

pub lower_apart : (has zeroth : Bool) (identity k : ℕ) → (has && nat_eq (k % 6) ((cond zeroth 0 3 + identity) % 6)) ≡ true →
    (has && nat_eq (k % 6) ((cond zeroth 3 0 + identity) % 6)) ≡ true → ⊥
lower_apart has true identity k = never_both has ((0 + identity) % 6) ((3 + identity) % 6) k (omega arith) (omega arith)
lower_apart has false identity k = never_both has ((3 + identity) % 6) ((0 + identity) % 6) k (omega arith) (omega arith)

-- where a third is not port 0's in the first symbol, it is in the later one
pub lower_other : (identity k : ℕ) → k % 3 ≡ identity % 3 → nat_eq (k % 6) ((0 + identity) % 6) ≡ false → nat_eq (k % 6) ((3 + identity) % 6) ≡ true
lower_other identity k there none =
    sym (ap (λ (first : Bool). first || nat_eq (k % 6) ((3 + identity) % 6)) none) ∙ lower_third true identity k ∙ eq-eqb (k % 3) (identity % 3) there

-- ---- ports 2 and 3

pub upper_third : (identity slot k : ℕ) → (nat_eq (k % 6) (upper_first 2 identity slot) || nat_eq (k % 6) (upper_first 3 identity slot)) ≡ nat_eq (k % 3) (identity % 3)
upper_third identity slot k = every_third (upper_first 2 identity slot) (upper_first 3 identity slot) (identity % 3) k (omega arith) (omega arith) (omega arith)

pub upper_apart : (has : Bool) (identity slot k : ℕ) → (has && nat_eq (k % 6) (upper_first 2 identity slot)) ≡ true → (has && nat_eq (k % 6) (upper_first 3 identity slot)) ≡ true → ⊥
upper_apart has identity slot k = never_both has (upper_first 2 identity slot) (upper_first 3 identity slot) k (omega arith) (omega arith)
