-- The step costs of one position as a table, computed once for all passes (own).
use Rattle.std.specs.Prelude.{◌≡◌, ℕ, ◌-◌, ◌*◌, ◌/◌, ◌^◌, ◌<◌, ◌≤◌, Bool, List, [], ◌∷◌, ◌++◌, map, slice_index, slice_index_or, ℤ}
use Rattle.finite.specs.Bits.{odd, xor}
use Rattle.trellis.specs.Rows.{least_in}
use Rattle.conv_code.specs.Cost.{triple_cost}
use Rattle.tailbite.specs.Machine.{shift, branch_cost, first_from, newest_bit, second_from}

-- the coded bits of the step with input bit 0 from each even state 0 to 62, as three-bit numbers; the first stream's
-- bit has weight 4
unfoldable pub even_codes : List ℕ
even_codes =
    0 ∷ 4 ∷ 1 ∷ 5 ∷ 6 ∷ 2 ∷ 7 ∷ 3 ∷ 7 ∷ 3 ∷ 6 ∷ 2 ∷ 1 ∷ 5 ∷ 0 ∷ 4 ∷
    3 ∷ 7 ∷ 2 ∷ 6 ∷ 5 ∷ 1 ∷ 4 ∷ 0 ∷ 4 ∷ 0 ∷ 5 ∷ 1 ∷ 2 ∷ 6 ∷ 3 ∷ 7 ∷ []

-- one position's step cost table, from the costs of the eight combinations of coded bits, numbered as three bits: first
-- for the numbers in `even_codes`, then for their complements
unfoldable pub spread_costs : List ℕ → List ℕ
spread_costs by_code =
    map (λ code. slice_index_or by_code code 0) even_codes
    ++ map (λ code. slice_index_or by_code (7 - code) 0) even_codes

-- the cost of the three coded bits in the number p, against one position's values v
abbrev pub code_cost : List ℤ → ℕ → ℕ
code_cost v p = triple_cost v (odd (p / 4)) (odd (p / 2)) (odd p)

-- the table's cost for the step from state x with input bit b. Entry h is the cost of the steps from 2h with 0 and from
-- 2h + 1 with 1, which have the same coded bits; entry h + 32 is the cost of the steps from 2h with 1 and from 2h + 1
-- with 0.
abbrev pub shared_cost : List ℕ → ℕ → Bool → ℕ
shared_cost costs x b = slice_index costs (shift x (xor b (odd x)))

-- the minimum cost to state x by a table of step costs, if `row` has the minimum cost to each state one step before
abbrev pub shared_least : List ℕ → List ℕ → ℕ → ℕ
shared_least costs row x = least_in (shared_cost costs) row (first_from x) (newest_bit x) (second_from x) (newest_bit x)

-- the table `costs` has the step costs for one position's values, each at most 3 * 2 ^ 20
pub record AreCosts (values : List ℤ) (costs : List ℕ) : Type 0 where
  pub cost : (x : ℕ) (b : Bool) → x < 64 → shared_cost costs x b ≡ branch_cost values x b
  pub small : (y : ℕ) → y < 64 → slice_index costs y ≤ 3 * 2 ^ 20

-- the first n of `tables` have the step costs for the values at their positions
pub record HaveCosts (values : List (List ℤ)) (tables : List (List ℕ)) (n : ℕ) : Type 0 where
  pub place : (k : ℕ) → k < n → AreCosts (slice_index_or values k []) (slice_index_or tables k [])
