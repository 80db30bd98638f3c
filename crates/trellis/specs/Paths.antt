-- Paths through a trellis: a state machine that consumes one bit per step (own).
use Rattle.std.specs.Prelude.{ℕ, zero, suc, ◌+◌, min, nat_lt, Bool, true, false, List, [], ◌∷◌}

-- the state that a word's bits reach from state `x`
abbrev pub end_of : (ℕ → Bool → ℕ) → ℕ → List Bool → ℕ
end_of next x [] = x
end_of next x (b ∷ bs) = end_of next (next x b) bs

-- the cost of a word's path from step `k` and state `x`: the sum of the costs of its steps
abbrev pub path_cost : (ℕ → Bool → ℕ) → (ℕ → ℕ → Bool → ℕ) → ℕ → ℕ → List Bool → ℕ
path_cost next c k x [] = 0
path_cost next c k x (b ∷ bs) = c k x b + path_cost next c (suc k) (next x b) bs

-- the minimum cost of n steps from step k and state x, end cost included, by recursion
abbrev pub best : (ℕ → Bool → ℕ) → (ℕ → ℕ → Bool → ℕ) → (ℕ → ℕ) → ℕ → ℕ → ℕ → ℕ
best next c ends k zero x = ends x
best next c ends k (suc n) x =
    min (c k x false + best next c ends (suc k) n (next x false))
    (c k x true + best next c ends (suc k) n (next x true))

-- the first bit on a cheapest path of n + 1 steps from step k and state x. A tie gives 0, which makes the word
-- lexicographically first.
abbrev pub best_bit : (ℕ → Bool → ℕ) → (ℕ → ℕ → Bool → ℕ) → (ℕ → ℕ) → ℕ → ℕ → ℕ → Bool
best_bit next c ends k n x =
    nat_lt (c k x true + best next c ends (suc k) n (next x true))
    (c k x false + best next c ends (suc k) n (next x false))

-- the word of n bits on the path from step `k` and state `x`, where `choice` selects each bit by its step and state
abbrev pub walked : (ℕ → Bool → ℕ) → (ℕ → ℕ → Bool) → ℕ → ℕ → ℕ → List Bool
walked next choice k zero x = []
walked next choice k (suc n) x = choice k x ∷ walked next choice (suc k) n (next x (choice k x))
