-- The sums of values by coded bit.
use Rattle.std.proofs.Common.{◌≡◌, ℕ, ◌^◌, ◌<◌, List, [], length, get_or, ℤ, pos, ap, ◌∙◌}
use Rattle.finite.specs.Lists.{values_below}
use Rattle.finite.specs.Tables.{sum_at}
use Rattle.finite.proofs.Lists.{values_below_at}
use Rattle.finite.proofs.Tables as tables
use Rattle.sub_block.specs.Items.{summed_at}
use Rattle.sub_block.proofs.Sums.{table_by_stream}
use Rattle.turbo_code.specs.Reading.{item_of, summed}

-- after the first m values the sums are those of the definition, within their bound
abbrev pub AreSums : ℕ → ℕ → List ℤ → ℕ → List (List ℤ) → Type 0
AreSums k rv values m sums = tables.AreSums 3 1028 (2 ^ 15) (λ i. (item_of k rv i).stream) (λ i. (item_of k rv i).index) values m sums

-- after all values the sums are those of the definition
pub sums_all : (k rv : ℕ) (values : List ℤ) (m : ℕ) (sums : List (List ℤ)) → m ≡ length values → AreSums k rv values m sums → sums ≡ summed k rv values
unfolding summed
sums_all k rv values m sums e known =
    tables.sums_all 3 1028 (2 ^ 15) (λ i. (item_of k rv i).stream) (λ i. (item_of k rv i).index) values m sums known
    ∙ table_by_stream (item_of k rv) values m 3 1028
    ∙ ap (λ i. values_below 3 (λ t. values_below 1028 (summed_at (item_of k rv) values i t))) e

-- the sum at an item
pub summed-at : (k rv : ℕ) (values : List ℤ) (t p : ℕ) → t < 3 → p < 1028 →
    sum_at (summed k rv values) t p ≡ summed_at (item_of k rv) values (length values) t p
unfolding summed
summed-at k rv values t p stream inside =
    ap (λ s. get_or s p (pos 0)) (values_below_at (λ t. values_below 1028 (summed_at (item_of k rv) values (length values) t)) 3 t [] stream)
    ∙ values_below_at (summed_at (item_of k rv) values (length values) t) 1028 p (pos 0) inside
