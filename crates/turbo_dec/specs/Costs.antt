-- The encoder's step costs (branch metrics), from a decoder's soft values (own).
use Rattle.std.specs.Prelude.{ℕ, ◌+◌, ◌*◌, ◌/◌, ◌^◌, ◌≤◌, Bool, cond, List, [], slice_index_or, nat_eq, ℤ, ◌+ℤ◌}
use Rattle.trellis.specs.Rows.{least_in, least_out, IsLeastRow}
use Rattle.cs_bits.specs.Signs.{disagreement}
use Rattle.turbo_code.specs.Machine.{parity_bit, next, tail_bit, tail_parity, first_from, second_from, bit_to}
use Rattle.turbo_dec.specs.Decoder.{Values, at}

-- the cost of a step from state x with information bit u. `sum` is the information bit's soft value plus its prior, and
-- `parity` the parity bit's soft value.
abbrev pub edge_cost : ℤ → ℤ → ℕ → Bool → ℕ
edge_cost sum parity x u = disagreement sum u + disagreement parity (parity_bit x u)

-- the cost of the step at index k from state x with information bit u
abbrev pub step_cost : Values → ℕ → ℕ → Bool → ℕ
step_cost v k x u = edge_cost (at v.systematic k +ℤ at v.prior k) (at v.parity k) x u

-- the cost of tail step j, 0 to 2, from state x
abbrev pub tail_step_cost : List ℤ → ℕ → ℕ → ℕ
tail_step_cost tail j x =
    disagreement (at tail (2 * j)) (tail_bit x) + disagreement (at tail (2 * j + 1)) (tail_parity x)

-- the cost of the three tail steps from state x
abbrev pub tail_cost : List ℤ → ℕ → ℕ
tail_cost tail x = tail_step_cost tail 0 x + tail_step_cost tail 1 (x / 2) + tail_step_cost tail 2 (x / 2 / 2)

-- the minimum cost to state x, given the row of minimum costs to each state one step before
abbrev pub forward_least : ℤ → ℤ → List ℕ → ℕ → ℕ
forward_least sum parity row x =
    least_in (edge_cost sum parity) row (first_from x) (bit_to (first_from x) x)
    (second_from x) (bit_to (second_from x) x)

-- the minimum cost from state x, given the row of minimum costs from each state one step later
abbrev pub backward_least : ℤ → ℤ → List ℕ → ℕ → ℕ
backward_least sum parity = least_out next (edge_cost sum parity)

-- the cost of a start in any state other than 0, where the encoder starts: more than any path costs
abbrev pub far : ℕ
far = 2 ^ 28

-- the cost of a start in state x: 0 for state 0, where the encoder starts
abbrev pub starts : ℕ → ℕ
starts x = cond (nat_eq x 0) 0 far

-- a row holds the minimum cost of k steps to each state. A step costs at most 12,288: the magnitudes of two values and
-- a prior, at most 4,096 each.
abbrev pub IsForwardRow : Values → ℕ → List ℕ → Type 0
IsForwardRow v = IsLeastRow next (step_cost v) starts 8 far 12288

-- row j of `rows`, for each j up to k, holds the minimum cost of j steps to each state
pub record HasRows (v : Values) (rows : List (List ℕ)) (k : ℕ) : Type 0 where
  pub row : (j : ℕ) → j ≤ k → IsForwardRow v j (slice_index_or rows j [])
