-- Products and magnitudes of the entries of W, computed for one period.
use Rattle.std.proofs.Common.{◌≡◌, ℕ, ◌+◌, ◌%◌, ◌<◌, ◌≤◌, arith, refl, Bool, true, nat_le}
use Rattle.std.proofs.lemmas.Bool.{leb-true}
use Rattle.finite.specs.Tests.{every_below}
use Rattle.finite.proofs.Tests.{every_below_at}
use Rattle.cs_num.specs.Complex.{times, square, minus, multiple}
use Rattle.fold128.specs.Tables.{quarter, cosine, w_at}
use Rattle.fold128.proofs.Laws.{w_same}
use Rattle.fold128.proofs.Entries.{w_period}
use Rattle.budget.specs.Table.{IsNearlyMultiplicative}

unfoldable product_near : ℕ → ℕ → Bool
product_near a b = nat_le (square (minus (times (w_at a) (w_at b)) (multiple 16384 (w_at (a + b))))) 492840000

-- all 16,384 pairs of one period
all_near : every_below 128 (λ a. every_below 128 (product_near a)) ≡ true
unfolding quarter cosine w_at product_near every_below
all_near = refl

pub nearly_multiplicative : IsNearlyMultiplicative
nearly_multiplicative a b =
    rw (← (w_period a), ← (w_period b), w_same (a + b) (a % 128 + b % 128) (omega arith)) (low (a % 128) (b % 128) (omega arith) (omega arith))
  where
    low : (a b : ℕ) → a < 128 → b < 128 → square (minus (times (w_at a) (w_at b)) (multiple 16384 (w_at (a + b)))) ≤ 492840000
    low a b p q = leb-true _ _ (unfold product_near in every_below_at 128 (product_near a) (every_below_at 128 (λ a. every_below 128 (product_near a)) all_near a p) b q)
