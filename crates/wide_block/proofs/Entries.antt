-- Tables of sums: their entries, and the magnitudes of added and of clamped tables.
use Rattle.std.proofs.Common.{◌≡◌, ℕ, zero, suc, ◌+◌, ◌<◌, ◌≤◌, All, List, [], ◌∷◌, get_or, ℤ, pos, ◌+ℤ◌, nat_abs, refl, arith}
use Rattle.std.proofs.lemmas.List.Elements.{All-from_get_or}
use Rattle.finite.specs.Lists.{values_below}
use Rattle.finite.specs.Sizes.{AllWithin, RowsWithin}
use Rattle.finite.specs.Tables.{sum_at}
use Rattle.finite.proofs.Integers.{abs-sum}
use Rattle.finite.proofs.Items.{item_of_row-within}
use Rattle.finite.proofs.Lists.{values_below-All}
use Rattle.wide_block.specs.Sums.{plus}

-- added tables are bounded by the sum of both bounds
pub plus-within : (m n : ℕ) (a b : List (List ℤ)) → RowsWithin m a → RowsWithin n b → RowsWithin (m + n) (plus a b)
unfolding plus
plus-within m n a b small small' =
    values_below-All (AllWithin (m + n)) 3 (λ t. values_below 1028 (λ i. sum_at a t i +ℤ sum_at b t i)) []
    (λ t _. values_below-All (λ sum. nat_abs sum ≤ m + n) 1028 (λ i. sum_at a t i +ℤ sum_at b t i) (pos 0)
    (λ i _.
    let x = item_of_row-within m a t i small in
    let y = item_of_row-within n b t i small' in
    let both = abs-sum (sum_at a t i) (sum_at b t i) in
    omega (arith, x, y, both)))

-- three rows, one by one
pub three_rows : (a b c d e f : List ℤ) → a ≡ d → b ≡ e → c ≡ f → a ∷ b ∷ c ∷ [] ≡ d ∷ e ∷ f ∷ []
three_rows a b c d e f p q r = rw (p, q, r) refl

pub all_three : (P : List ℤ → Type 0) (a b c : List ℤ) → P a → P b → P c → All P (a ∷ b ∷ c ∷ [])
all_three P a b c x y z = All-from_get_or P (a ∷ b ∷ c ∷ []) [] each
  where
    each : (i : ℕ) → i < 3 → P (get_or (a ∷ b ∷ c ∷ []) i [])
    each zero h = x
    each (suc zero) h = y
    each (suc (suc zero)) h = z
    each (suc (suc (suc i))) h = absurd (omega (arith, h))
