-- The backward recursion gives the minimum cost from a state.
use Rattle.std.proofs.Common.{◌≡◌, ℕ, zero, suc, ◌+◌, ◌≤◌, Bool, true, false, List, [], ◌∷◌, length, refl, ap, inl, inr, ◌⊎◌, arith}
use Rattle.std.specs.Prelude.{min}
use Rattle.std.proofs.lemmas.Bool.{cases_lt}
use Rattle.std.proofs.Math.Nat.{min-eq_left, min-eq_right}
use Rattle.trellis.specs.Paths.{end_of, path_cost, best}

pub min_cases : (a b : ℕ) → (min a b ≡ a) ⊎ (min a b ≡ b)
min_cases a b = elim (cases_lt b a) [ inl h ↦ inr (min-eq_right (omega arith)) | inr h ↦ inl (min-eq_left h) ]

-- no path costs less than `best`
pub best-le : (next : ℕ → Bool → ℕ) (c : ℕ → ℕ → Bool → ℕ) (ends : ℕ → ℕ) (k x : ℕ) (bs : List Bool) →
    best next c ends k (length bs) x ≤ path_cost next c k x bs + ends (end_of next x bs)
best-le next c ends k x [] = omega arith
best-le next c ends k x (false ∷ bs) = let ih = best-le next c ends (suc k) (next x false) bs in omega (arith, ih)
best-le next c ends k x (true ∷ bs) = let ih = best-le next c ends (suc k) (next x true) bs in omega (arith, ih)

-- some path costs exactly `best`
pub best_reached : (next : ℕ → Bool → ℕ) (c : ℕ → ℕ → Bool → ℕ) (ends : ℕ → ℕ) (k n x : ℕ) →
    (bs : List Bool) × (length bs ≡ n) × (path_cost next c k x bs + ends (end_of next x bs) ≡ best next c ends k n x)
best_reached next c ends k zero x = ([], refl, omega arith)
best_reached next c ends k (suc n) x =
    elim (min_cases (c k x false + best next c ends (suc k) n (next x false)) (c k x true + best next c ends (suc k) n (next x true))) [
      | inl e ↦ let (bs, size, reached) = best_reached next c ends (suc k) n (next x false) in (false ∷ bs, ap suc size, omega arith)
      | inr e ↦ let (bs, size, reached) = best_reached next c ends (suc k) n (next x true) in (true ∷ bs, ap suc size, omega arith)
    ]
