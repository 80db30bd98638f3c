-- A potential that rises by at most the cost of each step bounds the cost of each path from below.
use Rattle.std.proofs.Common.{◌≡◌, ℕ, suc, ◌+◌, ◌<◌, ◌≤◌, Bool, List, [], ◌∷◌, length, arith}
use Rattle.trellis.specs.Paths.{end_of, path_cost}

pub potential-le : (next : ℕ → Bool → ℕ) (c : ℕ → ℕ → Bool → ℕ) (level : ℕ → ℕ → ℕ) (limit n : ℕ) → ((y : ℕ) (b : Bool) → y < limit → next y b < limit) →
    ((k x : ℕ) (b : Bool) → k < n → x < limit → level (suc k) (next x b) ≤ level k x + c k x b) →
    (k x : ℕ) (bs : List Bool) → x < limit → k + length bs ≡ n → level n (end_of next x bs) ≤ level k x + path_cost next c k x bs
potential-le next c level limit n closed rises k x [] below size = let e : k ≡ n = omega arith in rw e (omega arith)
potential-le next c level limit n closed rises k x (b ∷ bs) below size =
    let first = rises k x b (omega arith) below in
    let rest = potential-le next c level limit n closed rises (suc k) (next x b) bs (closed x b below) (omega arith) in
    omega (arith, first, rest)
