-- The second encoder's order and its inverse: the loops that fill them, and that each undoes the other.
use Rattle.std.proofs.Common.{◌≡◌, ◌≢◌, ℕ, ◌+◌, ◌<◌, ◌≤◌, inl, inr, List, length, get_or, set, take, refl, ap, sym, subst, ◌∙◌, arith, get_or-set_same, get_or-set_other}
use Rattle.std.specs.Prelude.{nat_eq}
use Rattle.std.specs.List.{range_with_len}
use Rattle.std.proofs.lemmas.Bool.{cases_lt, eq-eqb, ne_eqb}
use Rattle.std.proofs.lemmas.List.Sums.{position_or_len_is}
use Rattle.std.proofs.lemmas.List.FromFn.{get_or-range_with_len, length-range_with_len}
use Rattle.finite.proofs.Lists.{values_below_at, values_below_is, front_is}
use Rattle.turbo_code.specs.declared.rows.Row.{Row}
use Rattle.turbo_code.specs.Table.{IsAnyRow, interleaver, step_of}
use Rattle.turbo_code.specs.Streams.{in_order, in_word_order}
use Rattle.turbo_code.specs.Laws.{Permutes}
use Rattle.turbo_code.proofs.TableFacts.{is_small}
use Rattle.turbo_code.proofs.Permutes.{all_permute}

pub in_order_is : {A : Type 0} (d : A) (row : Row) (values found : List A) (i : ℕ) → IsAnyRow row → row.k ≤ i → length found ≡ 1024 →
    ((j : ℕ) → j < i → get_or found j d ≡ get_or values (interleaver row j) d) → take row.k found ≡ in_order d row values
unfolding in_order
in_order_is d row values found i is_row past size each =
    let high = (is_small row is_row).high in
    front_is d row.k (λ j. get_or values (interleaver row j) d) found (omega (arith, high, size)) (λ j below. each j (omega (arith, past, below)))

-- the list after one more value, placed at its index in the word
pub placed_more : {A : Type 0} (d : A) (row : Row) (values found : List A) (i : ℕ) (v : A) → IsAnyRow row → i < row.k → length found ≡ 1024 →
    v ≡ get_or values i d → ((j : ℕ) → j < i → get_or found (interleaver row j) d ≡ get_or values j d) →
    (j : ℕ) → j < i + 1 → get_or (set found (interleaver row i) v) (interleaver row j) d ≡ get_or values j d
placed_more d row values found i v is_row inside size is each j below = elim (cases_lt j i) [
  | inl before ↦
      let other : interleaver row i ≢ interleaver row j = λ e. absurd (let same = permutes.one_to_one i j inside (omega (arith, before, inside)) e in omega (arith, same, before)) in
      get_or-set_other found (interleaver row i) (interleaver row j) v d (λ e. other (sym e)) ∙ each j before
  | inr after ↦
      let here : j ≡ i = omega (arith, after, below) in
      let within : interleaver row i < length found = let p = permutes.below i inside in let high = (is_small row is_row).high in omega (arith, p, high, size) in
      rw here (get_or-set_same found (interleaver row i) v d within ∙ is)
]
  where
    permutes : Permutes row.k (interleaver row)
    permutes = all_permute row is_row

-- the step that reads a bit is found from the bit's index
pub step_is : (row : Row) (i : ℕ) → IsAnyRow row → i < row.k → step_of row (interleaver row i) ≡ i
step_is row i is_row inside =
    let permutes = all_permute row is_row in
    let size = length-range_with_len 0 row.k in
    let at : (j : ℕ) → j < row.k → get_or (range_with_len 0 row.k) j 0 ≡ j = λ j l. get_or-range_with_len 0 row.k j 0 l ∙ omega arith in
    position_or_len_is (λ j. nat_eq (interleaver row j) (interleaver row i)) (range_with_len 0 row.k) i 0 (omega (arith, size, inside))
    (λ j before. ap (λ m. nat_eq (interleaver row m) (interleaver row i)) (at j (omega (arith, before, inside)))
    ∙ ne_eqb (interleaver row j) (interleaver row i) (λ e. let same = permutes.one_to_one j i (omega (arith, before, inside)) inside e in absurd (omega (arith, same, before))))
    (λ l. ap (λ m. nat_eq (interleaver row m) (interleaver row i)) (at i inside) ∙ eq-eqb (interleaver row i) (interleaver row i) refl)

-- bit k is read at the step that the inverse of the interleaver gives
pub record IsReadAtStep (row : Row) (k : ℕ) : Type 0 where
  pub below : step_of row k < row.k
  pub there : interleaver row (step_of row k) ≡ k

pub read_at_step : (row : Row) (k : ℕ) → IsAnyRow row → k < row.k → IsReadAtStep row k
read_at_step row k is_row inside =
    let (i, below, is) = (all_permute row is_row).onto k inside in
    subst (IsReadAtStep row) is (record {
      below = rw (step_is row i is_row below) below;
      there = ap (interleaver row) (step_is row i is_row below);
    })

pub in_word_order_is : {A : Type 0} (d : A) (row : Row) (values found : List A) (i : ℕ) → IsAnyRow row → row.k ≤ i → length found ≡ 1024 →
    ((j : ℕ) → j < i → get_or found (interleaver row j) d ≡ get_or values j d) → take row.k found ≡ in_word_order d row values
unfolding in_word_order
in_word_order_is d row values found i is_row past size each =
    let high = (is_small row is_row).high in
    front_is d row.k (λ k. get_or values (step_of row k) d) found (omega (arith, high, size)) (λ k below.
    let (j, inside, is) = (all_permute row is_row).onto k below in
    subst (λ m. get_or found m d ≡ get_or values (step_of row m) d) is
    (each j (omega (arith, past, inside)) ∙ ap (λ m. get_or values m d) (sym (step_is row j is_row inside))))

pub orders_undo : {A : Type 0} (d : A) (row : Row) (values : List A) → IsAnyRow row → length values ≡ row.k → in_word_order d row (in_order d row values) ≡ values
unfolding in_order in_word_order
orders_undo d row values is_row size =
    sym (values_below_is d row.k (λ k. get_or (in_order d row values) (step_of row k) d) values size (λ k below.
    let (i, inside, is) = (all_permute row is_row).onto k below in
    let there : get_or (in_order d row values) i d ≡ get_or values (interleaver row i) d = values_below_at (λ j. get_or values (interleaver row j) d) row.k i d inside in
    subst (λ m. get_or values m d ≡ get_or (in_order d row values) (step_of row m) d) is
    (sym there ∙ ap (λ m. get_or (in_order d row values) m d) (sym (step_is row i is_row inside)))))
