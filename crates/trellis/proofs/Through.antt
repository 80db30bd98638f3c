-- Minimum costs over an edge, from the costs up to it and the costs after it.
use Rattle.std.proofs.Common.{◌≡◌, ℕ, suc, ◌+◌, ◌<◌, Bool, ◌∷◌, ◌++◌, refl, ap, sym, ◌∙◌, inl, inr, arith}
use Rattle.std.specs.Prelude.{min}
use Rattle.std.proofs.lemmas.Bool.{cases_lt}
use Rattle.std.proofs.Math.Nat.{min-le_left, min-le_right}
use Rattle.trellis.specs.Paths.{end_of, best}
use Rattle.trellis.specs.Least.{IsLeastTo, IsLeastVia, IsLeastWith}
use Rattle.trellis.proofs.Paths.{end_of-append, path_cost-split, end_below}
use Rattle.trellis.proofs.Best.{min_cases, best-le, best_reached}

-- a minimum split at one edge: the minimum up to its state, the edge, and the minimum from the next state
pub least_split : (next : ℕ → Bool → ℕ) (c : ℕ → ℕ → Bool → ℕ) (starts ends before : ℕ → ℕ) (limit k n : ℕ) (b : Bool) (m : ℕ) →
    ((y : ℕ) (a : Bool) → y < limit → next y a < limit) →
    ((x : ℕ) → x < limit → IsLeastTo next c starts limit k x (before x)) →
    IsLeastVia next (c k) before (best next c ends (suc k) n) b limit m →
    IsLeastWith next c starts ends limit k n b m
least_split next c starts ends before limit k n b m closed to via = record {
  reached =
      let (x, below, cost) = via.reached in
      let (y, us, below_y, size, there, cost_to) = (to x below).reached in
      let (ws, size', cost_from) = best_reached next c ends (suc k) n (next x b) in
      let split = rw there at (path_cost-split next c k y us b ws size) in
      let end_is : end_of next y (us ++ b ∷ ws) ≡ end_of next (next x b) ws = end_of-append next y us (b ∷ ws) ∙ rw there refl in
      let ends_is = ap ends end_is in
      (y, us, ws, below_y, size, size', omega (arith, cost, cost_to, cost_from, split, ends_is));
  least = λ y us ws below size size'.
      let x = end_of next y us in
      let below_x = end_below next limit y us closed below in
      let h = via.least x below_x in
      let h_to = (to x below_x).least y us below size refl in
      let h_from = rw size' at (best-le next c ends (suc k) (next x b) ws) in
      let split = path_cost-split next c k y us b ws size in
      let ends_is = ap ends (end_of-append next y us (b ∷ ws)) in
      omega (arith, h, h_to, h_from, split, ends_is);
}

-- the minimum over one more state
pub via_more : (next : ℕ → Bool → ℕ) (edge : ℕ → Bool → ℕ) (before after : ℕ → ℕ) (b : Bool) (x m v : ℕ) → IsLeastVia next edge before after b x m →
    v ≡ before x + edge x b + after (next x b) → IsLeastVia next edge before after b (x + 1) (min m v)
via_more next edge before after b x m v known is = record {
  reached = elim (min_cases m v) [
    | inl e ↦ let (y, below, cost) = known.reached in (y, omega arith, cost ∙ sym e)
    | inr e ↦ (x, omega arith, sym is ∙ sym e)
  ];
  least = λ y below. elim (cases_lt y x) [
    | inl h ↦ let h' = known.least y h in let k = min-le_left m v in omega (arith, h', k)
    | inr h ↦ let e : y ≡ x = omega arith in rw (e, ← is) (min-le_right m v)
  ];
}
