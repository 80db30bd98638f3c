-- Sums over soft values, by index.
use Rattle.std.proofs.Common.{◌≡◌, ℕ, ◌+◌, ◌<◌, List, [], length, get_or, ℤ, pos, ap, ◌∙◌, arith}
use Rattle.std.proofs.Math.Path.{fun_ext}
use Rattle.finite.specs.Lists.{values_below}
use Rattle.finite.proofs.Lists.{values_below-length, values_below_at}
use Rattle.sub_block.specs.declared.Item.{Item}
use Rattle.sub_block.specs.Items.{summed_at}
use Rattle.conv_code.specs.Reading.{item_of, summed_by, summed, summed_from}

-- `summed` is `summed_from` bit 0
pub from_first : (n : ℕ) (values : List ℤ) → summed_from 0 n values ≡ summed n values
from_first n values =
    let same : (i : ℕ) → item_of n (0 + i) ≡ item_of n i = λ i. let e : 0 + i ≡ i = omega arith in ap (item_of n) e in
    ap (λ (reading : ℕ → Item). summed_by reading n values) (fun_ext same)

-- ---- the sums' shape

module _ (reading : ℕ → Item) (n : ℕ) (values : List ℤ) where
  pub length-summed_by : length (summed_by reading n values) ≡ n
  unfolding summed_by
  length-summed_by = values_below-length n (λ p. values_below 3 (λ t. summed_at reading values (length values) t p))

  row : (p : ℕ) (d : List ℤ) → p < n →
      get_or (summed_by reading n values) p d ≡ values_below 3 (λ t. summed_at reading values (length values) t p)
  unfolding summed_by
  row p d below = values_below_at (λ p. values_below 3 (λ t. summed_at reading values (length values) t p)) n p d below

  pub length-summed_by_row : (p : ℕ) (d : List ℤ) → p < n → length (get_or (summed_by reading n values) p d) ≡ 3
  length-summed_by_row p d below =
      ap length (row p d below) ∙ values_below-length 3 (λ t. summed_at reading values (length values) t p)

  pub summed_by-at : (p t : ℕ) → p < n → t < 3 →
      get_or (get_or (summed_by reading n values) p []) t (pos 0) ≡ summed_at reading values (length values) t p
  summed_by-at p t below stream =
      ap (λ sums. get_or sums t (pos 0)) (row p [] below)
      ∙ values_below_at (λ t. summed_at reading values (length values) t p) 3 t (pos 0) stream

-- sums for the rate-matched sequence

pub length-summed : (n : ℕ) (values : List ℤ) → length (summed n values) ≡ n
length-summed n values = length-summed_by (item_of n) n values

pub length-summed_row : (n : ℕ) (values : List ℤ) (p : ℕ) (d : List ℤ) → p < n → length (get_or (summed n values) p d) ≡ 3
length-summed_row n values p d below = length-summed_by_row (item_of n) n values p d below

pub summed-at : (n : ℕ) (values : List ℤ) (p t : ℕ) → p < n → t < 3 →
    get_or (get_or (summed n values) p []) t (pos 0) ≡ summed_at (item_of n) values (length values) t p
summed-at n values p t below stream = summed_by-at (item_of n) n values p t below stream
