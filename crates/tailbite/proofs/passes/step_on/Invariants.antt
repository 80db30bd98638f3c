use Rattle.std.proofs.Common.{◌≡◌, ℕ, ◌+◌, ◌*◌, ◌^◌, ◌<◌, ◌≤◌, get_or, length, List}
use Rattle.tailbite.specs.Machine.{first_from}
use Rattle.tailbite.specs.Costs.{shared_least}
use Rattle.tailbite.proofs.passes.step_on.Given as goal

-- v is the minimum cost to state k
abbrev pub IsLeastIn : List ℕ → List ℕ → ℕ → ℕ → Type 0
IsLeastIn costs row k v = (v ≡ shared_least costs row k) × (v ≤ get_or row (first_from k) 0 + 3 * 2 ^ 20)

-- the states below h and those 32 above them are done
pub record IsSteppedOn (costs row later : List ℕ) (h : ℕ) : Type 0 where
  pub size : length later ≡ 64
  pub low : (k : ℕ) → k < h → IsLeastIn costs row k (get_or later k 0)
  pub high : (k : ℕ) → k < h → IsLeastIn costs row (k + 32) (get_or later (k + 32) 0)

abbrev pub invariant-loop-h : goal.invariant-loop-h
invariant-loop-h l = IsSteppedOn l.costs l.row l.later l.h
