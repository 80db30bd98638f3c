-- Maximum costs.
use Rattle.std.proofs.Common.{ℕ, ◌*◌, ◌≤◌, Bool, List, [], length, get_or, ℤ, pos, arith}
use Rattle.finite.specs.Sizes.{AllWithin, RowsWithin}
use Rattle.finite.proofs.Items.{item-within}
use Rattle.finite.proofs.Sums.{total_below-within}
use Rattle.conv_code.specs.Code.{tapped_bit, taps_0, taps_1, taps_2}
use Rattle.cs_bits.proofs.Signs.{disagreement-le}
use Rattle.conv_code.specs.Cost.{triple_cost, cost_at, word_cost}

-- the branch metric is at most three times the maximum magnitude
pub triple_cost-le : (n : ℕ) (v : List ℤ) (a b c : Bool) → AllWithin n v → triple_cost v a b c ≤ 3 * n
triple_cost-le n v a b c small =
    let s0 = item-within n v 0 small in
    let s1 = item-within n v 1 small in
    let s2 = item-within n v 2 small in
    let d0 = disagreement-le (get_or v 0 (pos 0)) a in
    let d1 = disagreement-le (get_or v 1 (pos 0)) b in
    let d2 = disagreement-le (get_or v 2 (pos 0)) c in
    omega (arith, s0, s1, s2, d0, d1, d2)

-- a word costs at most its length times the maximum branch metric
pub word_cost-le : (n : ℕ) (values : List (List ℤ)) (word : List Bool) → RowsWithin n values →
    word_cost values word ≤ length values * (3 * n)
unfolding word_cost
word_cost-le n values word small =
    total_below-within (length values) (3 * n) (cost_at values word) (λ k below.
    triple_cost-le n (get_or values k []) (tapped_bit taps_0 word k) (tapped_bit taps_1 word k) (tapped_bit taps_2 word k) (small k [] below))
