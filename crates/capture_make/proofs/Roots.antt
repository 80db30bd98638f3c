-- The largest number whose square is within a bound.
use Rattle.std.proofs.Common.{◌≡◌, ◌⊎◌, inl, inr, ℕ, ◌+◌, ◌*◌, ◌<◌, ◌≤◌, arith}
use Rattle.std.proofs.lemmas.Bool.{cases_lt}
use Rattle.std.proofs.lemmas.Nat.{mul-le}

-- if m ^ 2 is at most n, and n is below (r + 1) ^ 2, then m is at most r
pub no_greater : (m r n : ℕ) → m * m ≤ n → n < (r + 1) * (r + 1) → m ≤ r
no_greater m r n below next = elim (cases_lt r m) [
  | inl more ↦ absurd (let l = mul-le (r + 1) (r + 1) m m (omega (arith, more)) (omega (arith, more)) in omega (arith, below, next, l))
  | inr fits ↦ fits
]

-- the lesser bound implies both bounds
pub within_both : (m a b least : ℕ) → m ≤ a → m ≤ b → (least ≡ a) ⊎ (least ≡ b) → m ≤ least
within_both m a b least p q (inl e) = omega (arith, p, e)
within_both m a b least p q (inr e) = omega (arith, q, e)
