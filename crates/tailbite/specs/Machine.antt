-- The encoder as a machine of 64 states. A state holds the last six bits, the newest with weight 32 (TS 36.212 section
-- 5.1.3.1).
use Rattle.std.specs.Prelude.{ℕ, zero, suc, ◌+◌, ◌-◌, ◌*◌, ◌/◌, ◌%◌, ◌^◌, Bool, cond, List, [], map, slice_index_or, ℤ}
use Rattle.finite.specs.Bits.{odd}
use Rattle.trellis.specs.Rows.{least_in}
use Rattle.conv_code.specs.Code.{parity, taps_0, taps_1, taps_2}
use Rattle.conv_code.specs.Cost.{triple_cost}

-- the encoder's state after input bit b in state x
abbrev pub shift : ℕ → Bool → ℕ
shift x b = x / 2 + cond b 32 0

-- the input bit t steps before b, if b is input in state x; for t from 1 to 6 it has weight 2 ^ (6 - t) in x
abbrev pub window_bit : ℕ → Bool → ℕ → Bool
window_bit x b zero = b
window_bit x b (suc t) = odd (x / 2 ^ (5 - t))

-- the cost of the step from state x with input bit b, against one position's values v: the magnitudes of the values
-- that contradict the coded bits
abbrev pub branch_cost : List ℤ → ℕ → Bool → ℕ
branch_cost v x b =
    triple_cost v (parity (map (window_bit x b) taps_0)) (parity (map (window_bit x b) taps_1))
    (parity (map (window_bit x b) taps_2))

-- the cost of the step at position k from a state with an input bit
abbrev pub step_cost : List (List ℤ) → ℕ → ℕ → Bool → ℕ
step_cost values k = branch_cost (slice_index_or values k [])

-- the even one of the two states with a step to state x
abbrev pub first_from : ℕ → ℕ
first_from x = 2 * (x % 32)

-- the odd one of the two states with a step to state x
abbrev pub second_from : ℕ → ℕ
second_from x = 2 * (x % 32) + 1

-- the input bit of each step to state x
abbrev pub newest_bit : ℕ → Bool
newest_bit x = odd (x / 32)

-- the minimum cost to state x, if `row` has the minimum cost to each state one step before
abbrev pub forward_least : List ℤ → List ℕ → ℕ → ℕ
forward_least v row x = least_in (branch_cost v) row (first_from x) (newest_bit x) (second_from x) (newest_bit x)
