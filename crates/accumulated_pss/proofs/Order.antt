-- The order of positions by sum, then by position, is strict and total.
use Rattle.std.proofs.Common.{◌≡◌, ◌⊎◌, inl, inr, ℕ, ◌<◌, List, Bool, true, false, nat_lt, arith, refl}
use Rattle.std.specs.Prelude.{◌&&◌, ◌||◌, ◌==◌}
use Rattle.std.proofs.lemmas.Bool.Decides.{nat_tests}
use Rattle.accumulated_pss.specs.Sums.{sum_at}
use Rattle.accumulated_pss.specs.Maxima.{precedes}

abbrev before : ℕ → ℕ → ℕ → ℕ → Bool
before a t b u = nat_lt b a || ((a == b) && nat_lt t u)

pub precedes-itself : (row : List ℕ) (t : ℕ) → precedes row t t ≡ false
unfolding precedes
precedes-itself row t = by (sum_at row t)
  where
    by : (a : ℕ) → before a t a t ≡ false
    by a = grind (arith, nat_tests)

pub precedes-on : (row : List ℕ) (t u v : ℕ) → precedes row t u ≡ true → precedes row u v ≡ true → precedes row t v ≡ true
unfolding precedes
precedes-on row t u v = by (sum_at row t) (sum_at row u) (sum_at row v)
  where
    by : (a b c : ℕ) → before a t b u ≡ true → before b u c v ≡ true → before a t c v ≡ true
    by a b c p q = grind (arith, nat_tests)

pub precedes-either : (row : List ℕ) (t u : ℕ) → t < u → (precedes row t u ≡ true) ⊎ (precedes row u t ≡ true)
unfolding precedes
precedes-either row t u l = by (sum_at row t) (sum_at row u)
  where
    settle : (a b : ℕ) (c : Bool) → nat_lt a b ≡ c → (before a t b u ≡ true) ⊎ (before b u a t ≡ true)
    settle a b true e = inr (rw e refl)
    settle a b false e = inl (grind (arith, nat_tests))

    by : (a b : ℕ) → (before a t b u ≡ true) ⊎ (before b u a t ≡ true)
    by a b = settle a b (nat_lt a b) refl
