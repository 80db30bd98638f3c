-- Bounds on the sums.
use Rattle.std.proofs.Common.{◌≡◌, ℕ, ◌+◌, ◌*◌, ◌<◌, ◌≤◌, Bool, true, false, cond, List, [], length, get_or, ℤ, pos, nat_abs, refl, arith}
use Rattle.std.proofs.lemmas.Nat.{mod-mul-add}
use Rattle.std.proofs.Math.Nat.{mod-eq_of_lt}
use Rattle.std.proofs.lemmas.List.Elements.{All-get_or}
use Rattle.finite.proofs.Sums.{sum_below-within}
use Rattle.finite.specs.Sizes.{AllWithin, RowsWithin}
use Rattle.finite.specs.Lists.{values_below}
use Rattle.finite.proofs.Lists.{values_below-All}
use Rattle.sub_block.specs.declared.Item.{Item}
use Rattle.sub_block.specs.Items.{is_at, summed_at}
use Rattle.sub_block.proofs.Rounds.{GoesRound, summed_at-small}
use Rattle.conv_code.specs.Reading.{item_of, summed_by, summed}
use Rattle.conv_code.proofs.Items.{permuting}

-- rate matching outputs the same coded bit in each round
in_round : (n q i : ℕ) → i < 3 * n → item_of n (q * (3 * n) + i) ≡ item_of n i
unfolding item_of
in_round n q i below = rw (mod-mul-add q (3 * n) i below, mod-eq_of_lt below) refl

goes_round : (n : ℕ) → 6 ≤ n → n ≤ 64 → GoesRound (3 * n) (item_of n)
goes_round n long short = record { again = in_round n; once = (permuting n long short).reads.once }

-- a value keeps its bound whether or not it is counted
kept-within : (b : Bool) (z : ℤ) (bound : ℕ) → nat_abs z ≤ bound → nat_abs (cond b z (pos 0)) ≤ bound
kept-within true z bound small = small
kept-within false z bound small = omega arith

summed_at-few : (reading : ℕ → Item) (values : List ℤ) (bound : ℕ) → AllWithin bound values → (t p : ℕ) →
    nat_abs (summed_at reading values (length values) t p) ≤ length values * bound
unfolding summed_at
summed_at-few reading values bound small t p =
    sum_below-within (length values) bound (λ i. cond (is_at t p (reading i)) (get_or values i (pos 0)) (pos 0))
    (λ i below. kept-within (is_at t p (reading i)) (get_or values i (pos 0)) bound (All-get_or (λ z. nat_abs z ≤ bound) values i (pos 0) below small))

-- for every bit order, a sum is at most the number of values times the maximum magnitude
pub sizes_by_count : (reading : ℕ → Item) (n : ℕ) (values : List ℤ) (bound : ℕ) → AllWithin bound values →
    RowsWithin (length values * bound) (summed_by reading n values)
unfolding summed_by
sizes_by_count reading n values bound small =
    let sum : ℕ → ℕ → ℤ = λ p t. summed_at reading values (length values) t p in
    values_below-All (AllWithin (length values * bound)) n (λ p. values_below 3 (sum p)) []
    (λ p _. values_below-All (λ sum. nat_abs sum ≤ length values * bound) 3 (sum p) (pos 0) (λ t _. summed_at-few reading values bound small t p))

-- if the values fill at most q rounds, each sum is at most q times the maximum magnitude
pub sizes_of_sums : (n : ℕ) (values : List ℤ) (bound q : ℕ) → 6 ≤ n → n ≤ 64 → AllWithin bound values → length values ≤ q * (3 * n) →
    RowsWithin (q * bound) (summed n values)
unfolding summed_by
sizes_of_sums n values bound q long short small few =
    let sum : ℕ → ℕ → ℤ = λ p t. summed_at (item_of n) values (length values) t p in
    values_below-All (AllWithin (q * bound)) n (λ p. values_below 3 (sum p)) []
    (λ p _. values_below-All (λ sum. nat_abs sum ≤ q * bound) 3 (sum p) (pos 0) (λ t _. summed_at-small (3 * n) (item_of n) values bound q (goes_round n long short) small few t p))
