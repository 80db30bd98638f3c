use Rattle.std.proofs.Common.{◌≡◌, ℕ, ◌+◌, ◌*◌, ◌^◌, ◌<◌, ◌≤◌, false, get_or, length, List}
use Rattle.trellis.specs.Rows.{least_out}
use Rattle.tailbite.specs.Machine.{shift}
use Rattle.tailbite.specs.Costs.{shared_cost}
use Rattle.tailbite.proofs.passes.step_back.Given as goal

-- the costs for the first h pairs of states are computed
pub record ArePairs (costs row even odd : List ℕ) (h : ℕ) : Type 0 where
  pub even_size : length even ≡ 32
  pub odd_size : length odd ≡ 32
  pub even_least : (k : ℕ) → k < h → get_or even k 0 ≡ least_out shift (shared_cost costs) row (2 * k)
  pub even_growth : (k : ℕ) → k < h → get_or even k 0 ≤ get_or row k 0 + 3 * 2 ^ 20
  pub odd_least : (k : ℕ) → k < h → get_or odd k 0 ≡ least_out shift (shared_cost costs) row (2 * k + 1)
  pub odd_growth : (k : ℕ) → k < h → get_or odd k 0 ≤ get_or row k 0 + 3 * 2 ^ 20

-- the costs for the first h pairs of states are written
pub record IsSteppedBack (costs row earlier : List ℕ) (h : ℕ) : Type 0 where
  pub size : length earlier ≡ 64
  pub least : (k : ℕ) → k < 2 * h → get_or earlier k 0 ≡ least_out shift (shared_cost costs) row k
  pub growth : (k : ℕ) → k < 2 * h → get_or earlier k 0 ≤ get_or row (shift k false) 0 + 3 * 2 ^ 20

abbrev pub invariant-loop-h : goal.invariant-loop-h
invariant-loop-h l = ArePairs l.costs l.row l.even l.odd l.h

abbrev pub invariant-loop-h-2 : goal.invariant-loop-h-2
invariant-loop-h-2 l = IsSteppedBack l.costs l.row l.earlier l.h
