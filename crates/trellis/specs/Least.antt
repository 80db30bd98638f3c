-- Minimum path costs: some path attains the minimum, and no path costs less (own).
use Rattle.std.specs.Prelude.{◌≡◌, ℕ, ◌+◌, ◌<◌, ◌≤◌, Bool, cond, List, ◌∷◌, ◌++◌, length, nat_eq}
use Rattle.trellis.specs.Paths.{end_of, path_cost}

-- `m` is the minimum cost, start costs included, of `k` steps that begin in a state below `limit` and end in state `x`
pub record IsLeastTo (next : ℕ → Bool → ℕ) (c : ℕ → ℕ → Bool → ℕ) (starts : ℕ → ℕ) (limit k x m : ℕ) : Type 0 where
  pub reached : (y : ℕ) × (bs : List Bool) × (y < limit) × (length bs ≡ k) × (end_of next y bs ≡ x) ×
      (starts y + path_cost next c 0 y bs ≡ m)
  pub least : (y : ℕ) (bs : List Bool) → y < limit → length bs ≡ k → end_of next y bs ≡ x →
      m ≤ starts y + path_cost next c 0 y bs

-- `m` is the minimum, over the states x below `limit`, of the cost `before` up to x, the cost of the edge for the bit
-- `b`, and the cost `after` from the edge's end
pub record IsLeastVia (next : ℕ → Bool → ℕ) (edge : ℕ → Bool → ℕ) (before after : ℕ → ℕ) (b : Bool)
    (limit m : ℕ) : Type 0 where
  pub reached : (x : ℕ) × (x < limit) × (before x + edge x b + after (next x b) ≡ m)
  pub least : (x : ℕ) → x < limit → m ≤ before x + edge x b + after (next x b)

-- `m` is the minimum cost, start and end costs included, of a path with `k` bits before the bit `b` and `n` bits after
-- it
pub record IsLeastWith (next : ℕ → Bool → ℕ) (c : ℕ → ℕ → Bool → ℕ) (starts ends : ℕ → ℕ)
    (limit k n : ℕ) (b : Bool) (m : ℕ) : Type 0 where
  pub reached : (y : ℕ) × (us : List Bool) × (ws : List Bool) × (y < limit) × (length us ≡ k) × (length ws ≡ n) ×
      (starts y + path_cost next c 0 y (us ++ b ∷ ws) + ends (end_of next y (us ++ b ∷ ws)) ≡ m)
  pub least : (y : ℕ) (us ws : List Bool) → y < limit → length us ≡ k → length ws ≡ n →
      m ≤ starts y + path_cost next c 0 y (us ++ b ∷ ws) + ends (end_of next y (us ++ b ∷ ws))

-- the cost of ending in state `x`: 0 if `x` is state `s`, otherwise `far`
abbrev pub ends_in : ℕ → ℕ → ℕ → ℕ
ends_in far s x = cond (nat_eq x s) 0 far
