-- Lists of sums that grow by one half-frame at a time.
use Rattle.std.proofs.Common.{◌≡◌, ℕ, ◌+◌, ◌*◌, ◌^◌, ◌≤◌, List, ℤ, pos, ◌+ℤ◌, nat_abs, replicate, arith, ap, ap₂, sym, ◌∙◌}
use Rattle.std.proofs.lemmas.List.Elements.{All-replicate}
use Rattle.finite.specs.Sizes.{AllWithin}
use Rattle.finite.specs.Sums.{sum_below}
use Rattle.finite.specs.Lists.{values_below}
use Rattle.finite.proofs.Sums.{sum_below_none, sum_below_more}
use Rattle.finite.proofs.Integers.{abs-sum}
use Rattle.finite.proofs.Items.{item-within}
use Rattle.finite.proofs.Lists.{values_below_at, values_below_same, values_below-All}
use Rattle.accumulated_sss.specs.Steps.{added, number_at}

-- `row` has 62 sums of n terms each, and each term has magnitude at most 2^57
pub record AreSums (n : ℕ) (f : ℕ → ℕ → ℤ) (row : List ℤ) : Type 0 where
  pub are : row ≡ values_below 62 (λ i. sum_below n (λ j. f j i))
  pub small : AllWithin (n * 2 ^ 57) row

pub no_sums : (f : ℕ → ℕ → ℤ) → AreSums 0 f (replicate 62 (pos 0))
no_sums f = record {
  are = values_below_same 62 (λ i. pos 0) (λ i. sum_below 0 (λ j. f j i)) (λ i l. sym (sum_below_none (λ j. f j i)));
  small = All-replicate (λ z. nat_abs z ≤ 0 * 2 ^ 57) 62 (pos 0) (omega arith);
}

pub more_sums : (n : ℕ) (f : ℕ → ℕ → ℤ) (row values : List ℤ) → AreSums n f row → values ≡ values_below 62 (f n) → AllWithin (2 ^ 57) values →
    AreSums (n + 1) f (added row values)
unfolding added
more_sums n f row values so_far e small = record {
  are = values_below_same 62 (λ i. number_at row i +ℤ number_at values i) (λ i. sum_below (n + 1) (λ j. f j i))
      (λ i l. ap₂ ◌+ℤ◌ (ap (λ r. number_at r i) so_far.are ∙ values_below_at (λ m. sum_below n (λ j. f j m)) 62 i (pos 0) l)
      (ap (λ r. number_at r i) e ∙ values_below_at (f n) 62 i (pos 0) l) ∙ sym (sum_below_more n (λ j. f j i)));
  small = values_below-All (λ z. nat_abs z ≤ (n + 1) * 2 ^ 57) 62 (λ i. number_at row i +ℤ number_at values i) (pos 0)
      (λ i l. let a = item-within (n * 2 ^ 57) row i so_far.small in let b = item-within (2 ^ 57) values i small in
      let c = abs-sum (number_at row i) (number_at values i) in omega (arith, a, b, c));
}
