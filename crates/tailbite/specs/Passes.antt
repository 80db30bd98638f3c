-- Backward passes over the positions of a word: the minimum costs from each state to a path's end (own).
use Rattle.std.specs.Prelude.{◌≡◌, ℕ, ◌+◌, ◌^◌, ◌<◌, ◌≤◌, Bool, List, [], length, slice_index, slice_index_or, ℤ}
use Rattle.trellis.specs.Paths.{best}
use Rattle.trellis.specs.Rows.{bit_out}
use Rattle.tailbite.specs.Machine.{shift, step_cost}
use Rattle.tailbite.specs.Costs.{shared_cost}

-- for each state, row k has the minimum cost of a path from the state through the positions from k to the last,
-- including the end state's cost in `ends`
pub record IsPass (values : List (List ℤ)) (ends : ℕ → ℕ) (rows : List (List ℕ)) : Type 0 where
  pub cost : (k m x : ℕ) → k + m ≡ length values → x < 64 →
      slice_index (slice_index_or rows k []) x ≡ best shift (step_cost values) ends k m x
  pub room : (k x : ℕ) → k ≤ length values → x < 64 → slice_index (slice_index_or rows k []) x ≤ 2 ^ 31

-- `rows` are the rows of a backward pass in which a path may end in any state at no cost
abbrev pub IsFreePass : List (List ℤ) → List (List ℕ) → Type 0
IsFreePass values rows = (ends : ℕ → ℕ) × ((x : ℕ) → x < 64 → ends x ≡ 0) × IsPass values ends rows

-- the input bit at position k on the minimum-cost path from a state, by the tables of step costs and the rows of a pass
abbrev pub decoded_bit : List (List ℕ) → List (List ℕ) → ℕ → ℕ → Bool
decoded_bit tables rows k = bit_out shift (shared_cost (slice_index_or tables k [])) (slice_index_or rows (k + 1) [])
