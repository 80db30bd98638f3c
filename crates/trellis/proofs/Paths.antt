-- Path costs: splitting, and bounds.
use Rattle.std.proofs.Common.{◌≡◌, ℕ, zero, suc, ◌+◌, ◌*◌, ◌<◌, ◌≤◌, Bool, List, [], ◌∷◌, ◌++◌, length, refl, ap, ◌∙◌, arith}
use Rattle.trellis.specs.Paths.{end_of, path_cost}

pub end_of-append : (next : ℕ → Bool → ℕ) (x : ℕ) (bs cs : List Bool) → end_of next x (bs ++ cs) ≡ end_of next (end_of next x bs) cs
end_of-append next x [] cs = refl
end_of-append next x (b ∷ bs) cs = end_of-append next (next x b) bs cs

pub path_cost-append : (next : ℕ → Bool → ℕ) (c : ℕ → ℕ → Bool → ℕ) (k x : ℕ) (bs cs : List Bool) →
    path_cost next c k x (bs ++ cs) ≡ path_cost next c k x bs + path_cost next c (k + length bs) (end_of next x bs) cs
path_cost-append next c k x [] cs = let e : k + 0 ≡ k = omega arith in rw e (omega arith)
path_cost-append next c k x (b ∷ bs) cs =
    let ih = path_cost-append next c (suc k) (next x b) bs cs in
    let e : suc k + length bs ≡ k + suc (length bs) = omega arith in
    rw (ih, e) (omega arith)

-- a path extended by one bit at its end
pub path_cost-last : (next : ℕ → Bool → ℕ) (c : ℕ → ℕ → Bool → ℕ) (y : ℕ) (bs : List Bool) (b : Bool) (k : ℕ) → length bs ≡ k →
    path_cost next c 0 y (bs ++ b ∷ []) ≡ path_cost next c 0 y bs + c k (end_of next y bs) b
path_cost-last next c y bs b k size =
    let e : 0 + length bs ≡ k = omega arith in
    path_cost-append next c 0 y bs (b ∷ []) ∙ rw e (omega arith)

-- a path split at step k
pub path_cost-split : (next : ℕ → Bool → ℕ) (c : ℕ → ℕ → Bool → ℕ) (k y : ℕ) (us : List Bool) (b : Bool) (ws : List Bool) → length us ≡ k →
    path_cost next c 0 y (us ++ b ∷ ws) ≡ path_cost next c 0 y us + (c k (end_of next y us) b + path_cost next c (suc k) (next (end_of next y us) b) ws)
path_cost-split next c k y us b ws size =
    let e : 0 + length us ≡ k = omega arith in
    path_cost-append next c 0 y us (b ∷ ws) ∙ rw e refl

-- a nonempty list is its front and its last item
pub all_but_last : (bs : List Bool) (n : ℕ) → length bs ≡ suc n → (cs : List Bool) × (b : Bool) × (length cs ≡ n) × (bs ≡ cs ++ b ∷ [])
all_but_last [] n e = absurd (omega arith)
all_but_last (b ∷ []) n e = ([], b, omega arith, refl)
all_but_last (b ∷ b' ∷ bs) zero e = absurd (omega arith)
all_but_last (b ∷ b' ∷ bs) (suc n) e =
    let (cs, last, size, h) = all_but_last (b' ∷ bs) n (omega arith) in (b ∷ cs, last, ap suc size, ap (λ l. b ∷ l) h)

-- if each step stays below the limit, so does each path
pub end_below : (next : ℕ → Bool → ℕ) (limit y : ℕ) (bs : List Bool) → ((y : ℕ) (b : Bool) → y < limit → next y b < limit) → y < limit → end_of next y bs < limit
end_below next limit y [] closed h = h
end_below next limit y (b ∷ bs) closed h = end_below next limit (next y b) bs closed (closed y b h)

-- the cost of a path is at most its length times the maximum cost of a step
pub path_cost-le : (next : ℕ → Bool → ℕ) (c : ℕ → ℕ → Bool → ℕ) (bound k x : ℕ) (bs : List Bool) → ((k x : ℕ) (b : Bool) → c k x b ≤ bound) →
    path_cost next c k x bs ≤ length bs * bound
path_cost-le next c bound k x [] h = omega arith
path_cost-le next c bound k x (b ∷ bs) h =
    let here = h k x b in
    let rest = path_cost-le next c bound (suc k) (next x b) bs h in
    omega (arith, here, rest)
