-- Minimum costs up to a state, step by step.
use Rattle.std.proofs.Common.{◌≡◌, ℕ, suc, ◌+◌, ◌<◌, ◌≤◌, Bool, List, [], ◌∷◌, ◌++◌, length, refl, ap, sym, ◌∙◌, inl, inr, ◌⊎◌, arith, length-append}
use Rattle.std.specs.Prelude.{min}
use Rattle.std.proofs.Math.Nat.{min-le_left, min-le_right}
use Rattle.trellis.specs.Paths.{end_of, path_cost}
use Rattle.trellis.specs.Least.{IsLeastTo}
use Rattle.trellis.proofs.Paths.{end_of-append, path_cost-last, all_but_last, end_below}
use Rattle.trellis.proofs.Best.{min_cases}

-- before any step, the minimum cost to a state is its start cost
pub least_to_none : (next : ℕ → Bool → ℕ) (c : ℕ → ℕ → Bool → ℕ) (starts : ℕ → ℕ) (limit x : ℕ) → x < limit → IsLeastTo next c starts limit 0 x (starts x)
least_to_none next c starts limit x below = record {
  reached = (x, [], below, refl, refl, omega arith);
  least = first;
}
  where
    first : (y : ℕ) (bs : List Bool) → y < limit → length bs ≡ 0 → end_of next y bs ≡ x → starts x ≤ starts y + path_cost next c 0 y bs
    first y [] h size e = let e' = ap starts e in omega (arith, e')
    first y (b ∷ bs) h size e = absurd (omega arith)

-- state x is entered by two edges: from p by b, and from q by d
pub record HasEdges (next : ℕ → Bool → ℕ) (limit x p : ℕ) (b : Bool) (q : ℕ) (d : Bool) : Type 0 where
  pub first_below : p < limit
  pub second_below : q < limit
  pub first : next p b ≡ x
  pub second : next q d ≡ x
  pub only : (y : ℕ) (a : Bool) → y < limit → next y a ≡ x → ((y ≡ p) × (a ≡ b)) ⊎ ((y ≡ q) × (a ≡ d))

-- the minimum cost one step later, over the two edges into a state
pub least_to_more : (next : ℕ → Bool → ℕ) (c : ℕ → ℕ → Bool → ℕ) (starts : ℕ → ℕ) (limit k x p : ℕ) (b : Bool) (q : ℕ) (d : Bool) (m n : ℕ) →
    ((y : ℕ) (a : Bool) → y < limit → next y a < limit) →
    HasEdges next limit x p b q d → IsLeastTo next c starts limit k p m → IsLeastTo next c starts limit k q n →
    IsLeastTo next c starts limit (suc k) x (min (m + c k p b) (n + c k q d))
least_to_more next c starts limit k x p b q d m n closed edges to_p to_q = record {
  reached = elim (min_cases (m + c k p b) (n + c k q d)) [
    | inl e ↦
        let (y, bs, below, size, there, cost) = to_p.reached in
        let one = path_cost-last next c y bs b k size in
        let cost' = rw there at one in (
          y,
          bs ++ b ∷ [],
          below,
          length-append bs (b ∷ []) ∙ omega arith,
          end_of-append next y bs (b ∷ []) ∙ rw there edges.first,
          omega (arith, cost', cost, e),
        )
    | inr e ↦
        let (y, bs, below, size, there, cost) = to_q.reached in
        let one = path_cost-last next c y bs d k size in
        let cost' = rw there at one in (
          y,
          bs ++ d ∷ [],
          below,
          length-append bs (d ∷ []) ∙ omega arith,
          end_of-append next y bs (d ∷ []) ∙ rw there edges.second,
          omega (arith, cost', cost, e),
        )
  ];
  least = λ y bs below size there.
      let (cs, a, size', is) = all_but_last bs k size in
      let there' : next (end_of next y cs) a ≡ x = sym (end_of-append next y cs (a ∷ [])) ∙ rw (← is) there in
      let one = path_cost-last next c y cs a k size' in
      let le_p = min-le_left (m + c k p b) (n + c k q d) in
      let le_q = min-le_right (m + c k p b) (n + c k q d) in
      rw is (elim (edges.only (end_of next y cs) a (end_below next limit y cs closed below) there') [
        | inl (here, bit) ↦
            let h = to_p.least y cs below size' here in
            let from = ap (λ s. c k s a) here in
            let by = ap (λ t. c k p t) bit in
            omega (arith, h, one, from, by, le_p)
        | inr (here, bit) ↦
            let h = to_q.least y cs below size' here in
            let from = ap (λ s. c k s a) here in
            let by = ap (λ t. c k q t) bit in
            omega (arith, h, one, from, by, le_q)
      ]);
}

-- the minimum cost one step later is at most the cost over any single edge
pub least_to-le : (next : ℕ → Bool → ℕ) (c : ℕ → ℕ → Bool → ℕ) (starts : ℕ → ℕ) (limit k x : ℕ) (b : Bool) (m m' : ℕ) →
    IsLeastTo next c starts limit k x m → IsLeastTo next c starts limit (suc k) (next x b) m' → m' ≤ m + c k x b
least_to-le next c starts limit k x b m m' to further =
    let (y, bs, below, size, there, cost) = to.reached in
    let one = rw there at (path_cost-last next c y bs b k size) in
    let h = further.least y (bs ++ b ∷ []) below (length-append bs (b ∷ []) ∙ omega arith) (end_of-append next y bs (b ∷ []) ∙ rw there refl) in
    omega (arith, one, h, cost)
