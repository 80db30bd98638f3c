-- A row written state by state, and rows of path metrics.
use Rattle.std.proofs.Common.{◌≡◌, ◌≢◌, ℕ, suc, ◌+◌, ◌*◌, ◌<◌, ◌≤◌, Bool, cond, List, length, get_or, set, inl, inr, refl, arith, get_or-set_other, get_or-set_same, below_more}
use Rattle.std.specs.Prelude.{replicate, count_by, nat_lt}
use Rattle.std.proofs.lemmas.Bool.{lt-ltb, le-ltb}
use Rattle.std.proofs.lemmas.Bool.Decides.{eqb_tells, nat_tests}
use Rattle.std.proofs.lemmas.List.{get_or-replicate, length-replicate}
use Rattle.std.proofs.lemmas.List.Sums.{sum_by-set, sum_by-le-sum_by}
use Rattle.trellis.specs.Least.{ends_in}
use Rattle.trellis.specs.Rows.{least_in, IsLeastRow}
use Rattle.trellis.proofs.Forward.{HasEdges, least_to_none, least_to_more}
use Rattle.trellis.proofs.Rounds.{ends_in_same, ends_in_other}

pub row_more : (P : ℕ → ℕ → Type 0) (row : List ℕ) (x v : ℕ) → x < length row → ((k : ℕ) → k < x → P k (get_or row k 0)) → P x v →
    (k : ℕ) → k < x + 1 → P k (get_or (set row x v) k 0)
row_more P row x v inside below here = below_more _ _
    (λ k h. let ne : k ≢ x = omega arith in rw get_or-set_other (below k h))
    (rw get_or-set_same here)

-- a constant row with a 0 at state s
pub one_zero : (n far s x : ℕ) → s < n → x < n → get_or (set (replicate n far) s 0) x 0 ≡ ends_in far s x
one_zero n far s x start inside = elim (eqb_tells x s) [
  | inl (t, same) ↦
      let size = length-replicate n far in
      rw (same, get_or-set_same (replicate n far) s 0 0 (omega (arith, start, size)), ends_in_same far s s refl) refl
  | inr (f, other) ↦ rw (get_or-set_other (replicate n far) s x 0 0 other, get_or-replicate n x far 0 inside, ends_in_other far s x f) refl
]

-- before the first step, the start costs are a row of minimum costs
pub row_first : (next : ℕ → Bool → ℕ) (c : ℕ → ℕ → Bool → ℕ) (starts : ℕ → ℕ) (limit first most : ℕ) (row : List ℕ) →
    ((x : ℕ) → x < limit → get_or row x 0 ≡ starts x) → ((x : ℕ) → x < limit → get_or row x 0 ≤ first) →
    IsLeastRow next c starts limit first most 0 row
row_first next c starts limit first most row is small = record {
  least = λ x below. rw (is x below) (least_to_none next c starts limit x below);
  room = λ x below. let r = small x below in omega (arith, r);
}

-- a row of minimum costs one step later: edges from p x by b x and from q x by d x enter state x
pub row_later : (next : ℕ → Bool → ℕ) (c : ℕ → ℕ → Bool → ℕ) (starts : ℕ → ℕ) (limit first most k : ℕ) (p : ℕ → ℕ) (b : ℕ → Bool) (q : ℕ → ℕ) (d : ℕ → Bool)
    (row later : List ℕ) → ((y : ℕ) (a : Bool) → y < limit → next y a < limit) →
    ((x : ℕ) → x < limit → HasEdges next limit x (p x) (b x) (q x) (d x)) → IsLeastRow next c starts limit first most k row →
    ((x : ℕ) → x < limit → get_or later x 0 ≡ least_in (c k) row (p x) (b x) (q x) (d x)) →
    ((x : ℕ) → x < limit → get_or later x 0 ≤ get_or row (p x) 0 + most) → IsLeastRow next c starts limit first most (suc k) later
row_later next c starts limit first most k p b q d row later closed edges known step growth = record {
  least = λ x below.
      let e = edges x below in
      rw (step x below)
      (least_to_more next c starts limit k x (p x) (b x) (q x) (d x) (get_or row (p x) 0) (get_or row (q x) 0) closed e
      (known.least (p x) e.first_below) (known.least (q x) e.second_below));
  room = λ x below.
      let g = growth x below in
      let r = known.room (p x) (edges x below).first_below in
      let more : suc k * most ≡ k * most + most = grind arith in
      omega (arith, g, r, more);
}

-- ---- the number of entries below a threshold

-- an entry below the threshold is replaced by one that is not, and the threshold does not rise
pub fewer_below : (row : List ℕ) (i v m m' : ℕ) → i < length row → get_or row i 0 < m → m' ≤ m → m' ≤ v →
    count_by (λ n. nat_lt n m') (set row i v) < count_by (λ n. nat_lt n m) row
fewer_below row i v m m' inside was no_more now =
    let without_v = rw (le-ltb v m' now) at (sum_by-set (λ n. cond (nat_lt n m') 1 0) row i v 0 inside) in
    let without_m = rw (le-ltb m m' no_more) at (sum_by-set (λ n. cond (nat_lt n m') 1 0) row i m 0 inside) in
    let before = rw (lt-ltb (get_or row i 0) m was, le-ltb m m (omega arith)) at (sum_by-set (λ n. cond (nat_lt n m) 1 0) row i m 0 inside) in
    let fewer = sum_by-le-sum_by (λ n. cond (nat_lt n m') 1 0) (λ n. cond (nat_lt n m) 1 0) (set row i m) (one_less m m' no_more) in
    omega (arith, without_v, without_m, before, fewer)
  where
    one_less : (m m' : ℕ) → m' ≤ m → (n : ℕ) → cond (nat_lt n m') 1 0 ≤ cond (nat_lt n m) 1 0
    one_less m m' no_more n = grind (arith, nat_tests)
