-- Which coded bits are sent, from how often each is sent.
use Rattle.std.proofs.Common.{◌≡◌, ℕ, zero, suc, ◌+◌, ◌<◌, Bool, true, false, List, length, get_or, refl, ap, ◌∙◌, arith}
use Rattle.std.specs.Prelude.{cond, ℤ, pos, int_lt}
use Rattle.std.proofs.lemmas.Bool.{lt-ltb}
use Rattle.finite.specs.Sums.{total_below}
use Rattle.finite.specs.Tables.{sum_at}
use Rattle.finite.proofs.Sums.{positive, sum_below_same, sum_below_pos, total_below-positive}
use Rattle.sub_block.specs.Items.{is_at, summed_at}
use Rattle.turbo_code.specs.declared.rows.Row.{Row}
use Rattle.turbo_code.specs.Table.{IsAnyRow}
use Rattle.turbo_code.specs.Reading.{item_of, summed}
use Rattle.turbo_code.proofs.Sums.{summed-at}
use Rattle.turbo_code.proofs.TableFacts.{is_small}
use Rattle.erasure.specs.Known.{sent_of}
use Rattle.erasure.specs.Sets.{above_zero}

above_positive : (n : ℕ) → int_lt (pos 0) (pos n) ≡ positive n
above_positive zero = refl
above_positive (suc n) = lt-ltb 0 (suc n) (omega arith)

-- an item's count is above 0 exactly if the item is sent
pub counts_are : (row : Row) (rv m : ℕ) (counts : List (List ℤ)) (values : List ℤ) → IsAnyRow row → length values ≡ m → ((i : ℕ) → i < m → get_or values i (pos 0) ≡ pos 1) →
    counts ≡ summed row.k rv values → (t p : ℕ) → t < 3 → p < row.k + 4 → above_zero counts t p ≡ sent_of row.k rv m t p
unfolding summed_at sent_of
counts_are row rv m counts values is_row size each is t p stream inside =
    let high = (is_small row is_row).high in
    let count : sum_at counts t p ≡ pos (total_below m (λ i. cond (is_at t p (item_of row.k rv i)) 1 0)) =
    ap (λ d. sum_at d t p) is ∙ summed-at row.k rv values t p stream (omega (arith, high, inside)) ∙ ap (λ n. summed_at (item_of row.k rv) values n t p) size
    ∙ sum_below_same m (λ i. cond (is_at t p (item_of row.k rv i)) (get_or values i (pos 0)) (pos 0)) (λ i. pos (cond (is_at t p (item_of row.k rv i)) 1 0))
    (λ i below. one (is_at t p (item_of row.k rv i)) (get_or values i (pos 0)) (each i below))
    ∙ sum_below_pos m (λ i. cond (is_at t p (item_of row.k rv i)) 1 0) in
    ap (int_lt (pos 0)) count ∙ above_positive (total_below m (λ i. cond (is_at t p (item_of row.k rv i)) 1 0))
    ∙ total_below-positive m (λ i. cond (is_at t p (item_of row.k rv i)) 1 0) (λ i. is_at t p (item_of row.k rv i)) (λ i below. one_positive (is_at t p (item_of row.k rv i)))
  where
    one : (b : Bool) (z : ℤ) → z ≡ pos 1 → cond b z (pos 0) ≡ pos (cond b 1 0)
    one true z e = e
    one false z e = refl

    one_positive : (b : Bool) → positive (cond b 1 0) ≡ b
    one_positive true = refl
    one_positive false = refl
