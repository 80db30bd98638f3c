-- The magnitude of the sums: each round of the reading sends each coded bit once.
use Rattle.std.proofs.Common.{◌≡◌, ℕ, ◌+◌, ◌*◌, ◌<◌, ◌≤◌, List, [], length, ℤ, pos, refl, arith}
use Rattle.std.specs.Prelude.{nat_abs}
use Rattle.std.proofs.lemmas.Nat.{mod-mul-add}
use Rattle.std.proofs.Math.Nat.{mod-eq_of_lt, mul-le-mul_left}
use Rattle.finite.specs.Sizes.{AllWithin, RowsWithin}
use Rattle.finite.specs.Lists.{values_below}
use Rattle.finite.proofs.Lists.{values_below-All}
use Rattle.sub_block.specs.Items.{summed_at}
use Rattle.sub_block.proofs.Rounds.{GoesRound, summed_at-small}
use Rattle.turbo_code.specs.Table.{IsAnySize}
use Rattle.turbo_code.specs.Reading.{item_of, summed}
use Rattle.turbo_code.proofs.TableFacts.{is_small_size}
use Rattle.turbo_code.proofs.Round.{reading_count}
use Rattle.turbo_code.proofs.Whole.{whole}

-- a bit has the same item in each round
in_round : (k rv q i : ℕ) → IsAnySize k → i < 3 * (k + 4) → item_of k rv (q * (3 * (k + 4)) + i) ≡ item_of k rv i
unfolding item_of
in_round k rv q i size below = rw (reading_count k rv size, mod-mul-add q (3 * (k + 4)) i below, mod-eq_of_lt below) refl

goes_round : (k rv : ℕ) → IsAnySize k → rv < 4 → GoesRound (3 * (k + 4)) (item_of k rv)
goes_round k rv size version = record {
  again = λ q i below. in_round k rv q i size below;
  once = (whole k rv size version).reads.once;
}

-- over a number of rounds with 180 coded bits each, the fewest for any size, each sum is at most that many times the
-- bound on the values
pub magnitudes : (k rv : ℕ) → IsAnySize k → rv < 4 → (values : List ℤ) (bound rounds : ℕ) → AllWithin bound values → length values ≤ rounds * 180 →
    RowsWithin (rounds * bound) (summed k rv values)
unfolding summed
magnitudes k rv size version values bound rounds small few =
    let low = (is_small_size k size).low in
    let longer : rounds * 180 ≤ rounds * (3 * (k + 4)) = mul-le-mul_left rounds (omega (arith, low)) in
    let in_rounds : length values ≤ rounds * (3 * (k + 4)) = omega (arith, longer, few) in
    let sum : ℕ → ℕ → ℤ = summed_at (item_of k rv) values (length values) in
    values_below-All (AllWithin (rounds * bound)) 3 (λ t. values_below 1028 (sum t)) []
    (λ t _. values_below-All (λ sum. nat_abs sum ≤ rounds * bound) 1028 (sum t) (pos 0)
    (λ p _. summed_at-small (3 * (k + 4)) (item_of k rv) values bound rounds (goes_round k rv size version) small in_rounds t p))
