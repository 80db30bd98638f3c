-- For every cost function, the words of n bits have a lexicographically first minimum.
use Rattle.std.proofs.Common.{◌≡◌, ℕ, zero, suc, ◌<◌, ◌≤◌, inl, inr, Bool, true, false, List, [], ◌∷◌, length, refl, arith}
use Rattle.std.proofs.lemmas.Bool.{cases_lt}
use Rattle.trellis.specs.Words.{IsBefore, IsFirstLeast}

-- the first of the cheapest words begins with 0 if the best word with 0 costs no more than the best with 1
pub begins_with_0 : (n : ℕ) (cost : List Bool → ℕ) (u w : List Bool) → IsFirstLeast n (λ v. cost (false ∷ v)) u → IsFirstLeast n (λ v. cost (true ∷ v)) w →
    cost (false ∷ u) ≤ cost (true ∷ w) → IsFirstLeast (suc n) cost (false ∷ u)
begins_with_0 n cost u w a b lower = record { size = let s = a.size in omega (arith, s); least = least; first = first }
  where
    least : (other : List Bool) → length other ≡ suc n → cost (false ∷ u) ≤ cost other
    least [] size = absurd (omega (arith, size))
    least (false ∷ v) size = a.least v (omega (arith, size))
    least (true ∷ v) size = let h = b.least v (omega (arith, size)) in omega (arith, lower, h)

    first : (other : List Bool) → length other ≡ suc n → IsBefore other (false ∷ u) → cost (false ∷ u) < cost other
    first [] size before = absurd before
    first (false ∷ v) size before = a.first v (omega (arith, size)) before
    first (true ∷ v) size before = absurd before

pub begins_with_1 : (n : ℕ) (cost : List Bool → ℕ) (u w : List Bool) → IsFirstLeast n (λ v. cost (false ∷ v)) u → IsFirstLeast n (λ v. cost (true ∷ v)) w →
    cost (true ∷ w) < cost (false ∷ u) → IsFirstLeast (suc n) cost (true ∷ w)
begins_with_1 n cost u w a b lower = record { size = let s = b.size in omega (arith, s); least = least; first = first }
  where
    least : (other : List Bool) → length other ≡ suc n → cost (true ∷ w) ≤ cost other
    least [] size = absurd (omega (arith, size))
    least (false ∷ v) size = let h = a.least v (omega (arith, size)) in omega (arith, lower, h)
    least (true ∷ v) size = b.least v (omega (arith, size))

    first : (other : List Bool) → length other ≡ suc n → IsBefore other (true ∷ w) → cost (true ∷ w) < cost other
    first [] size before = absurd before
    first (false ∷ v) size before = let h = a.least v (omega (arith, size)) in omega (arith, lower, h)
    first (true ∷ v) size before = b.first v (omega (arith, size)) before

-- the empty word is the first minimum for n = 0
pub first_of_none : (cost : List Bool → ℕ) → IsFirstLeast 0 cost []
first_of_none cost = record { size = refl; least = least; first = first }
  where
    least : (other : List Bool) → length other ≡ 0 → cost [] ≤ cost other
    least [] size = omega arith
    least (b ∷ v) size = absurd (omega (arith, size))

    first : (other : List Bool) → length other ≡ 0 → IsBefore other [] → cost [] < cost other
    first [] size before = absurd before
    first (b ∷ v) size before = absurd before

pub some_first_least : (n : ℕ) (cost : List Bool → ℕ) → (word : List Bool) × IsFirstLeast n cost word
some_first_least zero cost = ([], first_of_none cost)
some_first_least (suc n) cost =
    let (u, a) = some_first_least n (λ v. cost (false ∷ v)) in
    let (w, b) = some_first_least n (λ v. cost (true ∷ v)) in
    elim (cases_lt (cost (true ∷ w)) (cost (false ∷ u))) [
      | inl lower ↦ (true ∷ w, begins_with_1 n cost u w a b lower)
      | inr lower ↦ (false ∷ u, begins_with_0 n cost u w a b lower)
    ]
