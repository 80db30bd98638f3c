-- The sums in the rows of a recording.
use Rattle.std.proofs.Common.{◌≡◌, ◌∙◌, ℕ, ◌*◌, ◌≤◌, List, [], arith, ap, subst, sym}
use Rattle.finite.proofs.Lists.{values_below_at}
use Rattle.cs_num.specs.declared.Sample.{Sample}
use Rattle.accumulated_pss.specs.Sums.{IsPosition, one, accumulated, row_of, rows_of, row_in, sum_at}
use Rattle.accumulated_pss.proofs.Ratios.{accumulated-within}
use Rattle.accumulated_pss.proofs.Rows.{rows_hold_sums}

module _ (recording : List Sample) (halves : ℕ) (rows : List (List ℕ)) (are : rows ≡ rows_of recording halves) (n2 : ℕ) (member : n2 ≤ 2) where
  pub row_is : row_in rows n2 ≡ row_of recording halves n2
  row_is = ap (λ (r : List (List ℕ)). row_in r n2) are ∙ values_below_at (row_of recording halves) 3 n2 [] (omega (arith, member))

  pub sum_is : (t : ℕ) → IsPosition t → sum_at (row_in rows n2) t ≡ accumulated recording halves n2 t
  sum_is t p = ap (λ (row : List ℕ). sum_at row t) row_is ∙ rows_hold_sums recording halves n2 t p

  pub sum_within : (t : ℕ) → IsPosition t → sum_at (row_in rows n2) t ≤ halves * one
  sum_within t p = subst (λ n. n ≤ halves * one) (sym (sum_is t p)) (accumulated-within recording halves n2 t)
