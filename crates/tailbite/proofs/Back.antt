-- A backward pass over the positions: its loop invariant.
use Rattle.std.proofs.Common.{◌≡◌, ◌≢◌, ℕ, zero, suc, ◌+◌, ◌-◌, ◌*◌, ◌^◌, ◌<◌, ◌≤◌, Bool, true, false, List, [], length, get_or, set, ℤ, inl, inr, refl, ap, ap₂, ◌∙◌, arith, get_or-set_same}
use Rattle.std.specs.Prelude.{min, nat_lt}
use Rattle.std.proofs.lemmas.Bool.{cases_lt}
use Rattle.std.proofs.lemmas.List.{length-set}
use Rattle.trellis.specs.Paths.{best, best_bit}
use Rattle.trellis.specs.Rows.{least_out}
use Rattle.tailbite.specs.Machine.{shift, step_cost}
use Rattle.tailbite.specs.Costs.{AreCosts, HaveCosts, shared_cost}
use Rattle.tailbite.specs.Passes.{decoded_bit, IsPass}
use Rattle.tailbite.proofs.Windows.{shift_below}

-- an entry in a list of rows
abbrev pub entry : List (List ℕ) → ℕ → ℕ → ℕ
entry rows k x = get_or (get_or rows k []) x 0

-- the rows from position i are those of a pass
pub record IsPassAt (values : List (List ℤ)) (ends : ℕ → ℕ) (rows : List (List ℕ)) (i : ℕ) : Type 0 where
  pub place : i ≤ length values
  pub count : length values < length rows
  pub cost : (k m x : ℕ) → i ≤ k → k + m ≡ length values → x < 64 → entry rows k x ≡ best shift (step_cost values) ends k m x
  pub room : (k x : ℕ) → i ≤ k → k ≤ length values → x < 64 → entry rows k x ≤ 2 ^ 30 + (length values - k) * (3 * 2 ^ 20)

-- at the end no position is left
pub pass_end : (values : List (List ℤ)) (ends : List ℕ) (rows : List (List ℕ)) → length values < length rows →
    ((x : ℕ) → x < 64 → get_or ends x 0 ≤ 2 ^ 30) → IsPassAt values (λ x. get_or ends x 0) (set rows (length values) ends) (length values)
pass_end values ends rows inside small = record {
  place = omega arith;
  count = simp length-set (omega (arith, inside));
  cost = λ k m x late size below.
      let here : k ≡ length values = omega (arith, late, size) in
      let none : m ≡ 0 = omega (arith, late, size) in
      rw (here, none, get_or-set_same rows (length values) ends [] inside) refl;
  room = λ k x late early below.
      let here : k ≡ length values = omega (arith, late, early) in
      rw (here, get_or-set_same rows (length values) ends [] inside) (let h = small x below in omega (arith, h));
}

-- the sums that are compared for a row
same_sums : (costs row : List ℕ) (values : List (List ℤ)) (ends : ℕ → ℕ) (i m x : ℕ) (b : Bool) → AreCosts (get_or values i []) costs →
    ((x : ℕ) → x < 64 → get_or row x 0 ≡ best shift (step_cost values) ends (suc i) m x) → x < 64 →
    shared_cost costs x b + get_or row (shift x b) 0 ≡ step_cost values i x b + best shift (step_cost values) ends (suc i) m (shift x b)
same_sums costs row values ends i m x b are known below = ap₂ ◌+◌ (are.cost x b below) (known (shift x b) (shift_below x b below))

-- one position back
pub pass_step : (values : List (List ℤ)) (ends : ℕ → ℕ) (costs : List ℕ) (rows rows' : List (List ℕ)) (j i : ℕ) →
    IsPassAt values ends rows j → j ≡ i + 1 → AreCosts (get_or values i []) costs →
    ((x : ℕ) → x < 64 → entry rows' i x ≡ least_out shift (shared_cost costs) (get_or rows (i + 1) []) x) →
    ((x : ℕ) → x < 64 → entry rows' i x ≤ entry rows (i + 1) (shift x false) + 3 * 2 ^ 20) →
    ((k : ℕ) → k ≢ i → get_or rows' k [] ≡ get_or rows k []) → length rows' ≡ length rows → IsPassAt values ends rows' i
pass_step values ends costs rows rows' j i known next are least growth others count = record {
  place = let h = known.place in omega (arith, h, next);
  count = let h = known.count in omega (arith, h, count);
  cost = λ k m x late size below. elim (cases_lt i k) [
    | inl later ↦
        let apart : k ≢ i = omega (arith, later) in
        ap (λ (r : List ℕ). get_or r x 0) (others k apart) ∙ known.cost k m x (omega (arith, later, next)) size below
    | inr early ↦ here k m x (omega (arith, late, early)) size below
  ];
  room = λ k x late early below. elim (cases_lt i k) [
    | inl later ↦
        let apart : k ≢ i = omega (arith, later) in
        rw (others k apart) (known.room k x (omega (arith, later, next)) early below)
    | inr no_later ↦
        let e : k ≡ i = omega (arith, late, no_later) in
        let h = growth x below in
        let h' = known.room (i + 1) (shift x false) (omega (arith, next)) (let p = known.place in omega (arith, p, next)) (shift_below x false below) in
        let p = known.place in
        rw e (omega (arith, h, h', p, next))
  ];
}
  where
    here : (k m x : ℕ) → k ≡ i → k + m ≡ length values → x < 64 → entry rows' k x ≡ best shift (step_cost values) ends k m x
    here k zero x e size below = absurd (let p = known.place in omega (arith, p, next, e, size))
    here k (suc m) x e size below =
        let row_is : (x : ℕ) → x < 64 → get_or (get_or rows (i + 1) []) x 0 ≡ best shift (step_cost values) ends (suc i) m x =
        λ x below'.
        known.cost (i + 1) m x (omega (arith, next)) (omega (arith, size, e)) below'
        ∙ ap (λ (k : ℕ). best shift (step_cost values) ends k m x) (let one : i + 1 ≡ suc i = omega arith in one) in
        rw e
        (least x below
        ∙ ap₂ min (same_sums costs (get_or rows (i + 1) []) values ends i m x false are row_is below)
        (same_sums costs (get_or rows (i + 1) []) values ends i m x true are row_is below))

-- at the start all positions are passed
pub pass_start : (values : List (List ℤ)) (ends : ℕ → ℕ) (rows : List (List ℕ)) (i : ℕ) → length values ≤ 64 → IsPassAt values ends rows i → i ≤ 0 →
    IsPass values ends rows
pass_start values ends rows i short known done = record {
  cost = λ k m x size below. known.cost k m x (omega (arith, done)) size below;
  room = λ k x inside below. let h = known.room k x (omega (arith, done)) inside below in omega (arith, h, short);
}

-- the bit that the tables give is the first on the minimum-cost path
pub decoded_best : (values : List (List ℤ)) (tables : List (List ℕ)) (ends : ℕ → ℕ) (rows : List (List ℕ)) → HaveCosts values tables (length values) →
    IsPass values ends rows → (k m x : ℕ) → k + suc m ≡ length values → x < 64 → decoded_bit tables rows k x ≡ best_bit shift (step_cost values) ends k m x
decoded_best values tables ends rows have passed k m x size below =
    let are = have.place k (omega (arith, size)) in
    let row_is : (x : ℕ) → x < 64 → get_or (get_or rows (k + 1) []) x 0 ≡ best shift (step_cost values) ends (suc k) m x =
    λ x below'.
    passed.cost (k + 1) m x (omega (arith, size)) below'
    ∙ ap (λ (j : ℕ). best shift (step_cost values) ends j m x) (let one : k + 1 ≡ suc k = omega arith in one) in
    ap₂ nat_lt (same_sums (get_or tables k []) (get_or rows (k + 1) []) values ends k m x true are row_is below)
    (same_sums (get_or tables k []) (get_or rows (k + 1) []) values ends k m x false are row_is below)
