-- Each coded bit occurs in the reading once.
use Rattle.std.proofs.Common.{◌≡◌, ℕ, zero, suc, ◌+◌, ◌-◌, ◌*◌, ◌%◌, ◌<◌, inl, inr, Bool, List, [], ◌∷◌, length, get_or, refl, ap, ap₂, sym, subst, ◌∙◌, arith, mod-lt}
use Rattle.std.specs.Prelude.{nat_eq, cond}
use Rattle.std.specs.List.{count_by}
use Rattle.std.proofs.Math.Nat.{mod-eq_of_lt, mod-add-mod}
use Rattle.std.proofs.lemmas.Nat.{mod-mul-add}
use Rattle.std.proofs.lemmas.Bool.Decides.{eqb_tells}
use Rattle.std.proofs.lemmas.List.Sums.{sum_by-append, sum_by-cons}
use Rattle.sub_block.specs.declared.Code.TheVariants.{Turbo}
use Rattle.sub_block.specs.declared.Item.{Item}
use Rattle.sub_block.specs.Matrix.{cell, nulls, matrix_rows}
use Rattle.sub_block.specs.Items.{item, is_at}
use Rattle.sub_block.proofs.Cells.{cell_below}
use Rattle.sub_block.proofs.Counted.{different, counted_some, one_index, count_other, count_this, IsInverse}
use Rattle.sub_block.proofs.Once.{count-bits_in, cell_back, cells_inverse}
use Rattle.sub_block.proofs.Sums.{same_item}
use Rattle.turbo_code.specs.Table.{IsAnySize}
use Rattle.turbo_code.specs.Reading.{v0, v1, v2, in_turn, buffer, turned, start, reading, item_of}
use Rattle.turbo_code.specs.Laws.{ReadingIsWhole}
use Rattle.turbo_code.proofs.Turned.{count-turned}
use Rattle.turbo_code.proofs.Round.{reading_count}
use Rattle.turbo_code.proofs.Inside.{item_inside}

-- ---- the third stream's cells: those of a matrix, shifted by one

third : ℕ → ℕ → ℕ
third r m = (cell Turbo r m + 1) % (32 * r)

third_back : ℕ → ℕ → ℕ
third_back r c = cell_back Turbo r ((c + (32 * r - 1)) % (32 * r))

turned_back : (n c : ℕ) → c < n → ((c + 1) % n + (n - 1)) % n ≡ c
turned_back n c below =
    let whole : c + 1 + (n - 1) ≡ 1 * n + c = omega (arith, below) in
    mod-add-mod (c + 1) n (n - 1) ∙ ap (λ x. x % n) whole ∙ mod-mul-add 1 n c below

turned_forth : (n c : ℕ) → c < n → ((c + (n - 1)) % n + 1) % n ≡ c
turned_forth n c below =
    let whole : c + (n - 1) + 1 ≡ 1 * n + c = omega (arith, below) in
    mod-add-mod (c + (n - 1)) n 1 ∙ ap (λ x. x % n) whole ∙ mod-mul-add 1 n c below

thirds_inverse : (r : ℕ) → IsInverse (32 * r) (third r) (third_back r)
unfolding third third_back
thirds_inverse r = record {
  back = λ m l. ap (cell_back Turbo r) (turned_back (32 * r) (cell Turbo r m) (cell_below Turbo r m l)) ∙ cells.back m l;
  forth = λ c l. ap (λ x. (x + 1) % (32 * r)) (cells.forth _ (moved c l)) ∙ turned_forth (32 * r) c l;
  inside = λ c l. cells.inside _ (moved c l);
}
  where
    cells : IsInverse (32 * r) (cell Turbo r) (cell_back Turbo r)
    cells = cells_inverse Turbo r

    moved : (c : ℕ) → c < 32 * r → (c + (32 * r - 1)) % (32 * r) < 32 * r
    moved c l = mod-lt (c + (32 * r - 1)) (omega (arith, l))

-- ---- the buffer

count-in_turn : (test : Item → Bool) (xs ys : List Item) → count_by test (in_turn xs ys) ≡ count_by test xs + count_by test ys
count-in_turn test [] ys = omega arith
count-in_turn test (x ∷ xs) [] = omega arith
count-in_turn test (x ∷ xs) (y ∷ ys) =
    let f : Item → ℕ = λ p. cond (test p) 1 0 in
    let a = sum_by-cons f x (y ∷ in_turn xs ys) in
    let b = sum_by-cons f y (in_turn xs ys) in
    let c = sum_by-cons f x xs in
    let d = sum_by-cons f y ys in
    let e = count-in_turn test xs ys in
    omega (arith, a, b, c, d, e)

count-v0 : (r t c : ℕ) → c < 32 * r → count_by (is_at t c) (v0 r) ≡ cond (nat_eq 0 t) 1 0
count-v0 r zero c h = count_this (32 * r) 0 c (cell Turbo r) (cell_back Turbo r) (cells_inverse Turbo r) h
count-v0 r (suc t) c h = count_other (32 * r) 0 (suc t) c (cell Turbo r) (different 0 (suc t) (λ e. omega (arith, e))) ∙ rw (different 0 (suc t) (λ e. omega (arith, e))) refl

count-v1 : (r t c : ℕ) → c < 32 * r → count_by (is_at t c) (v1 r) ≡ cond (nat_eq 1 t) 1 0
count-v1 r t c h = elim (eqb_tells 1 t) [
  | inl (x, e) ↦ subst (λ s. count_by (is_at s c) (v1 r) ≡ cond (nat_eq 1 s) 1 0) e (count_this (32 * r) 1 c (cell Turbo r) (cell_back Turbo r) (cells_inverse Turbo r) h)
  | inr (x, ne) ↦ rw x (count_other (32 * r) 1 t c (cell Turbo r) x)
]

count-v2 : (r t c : ℕ) → c < 32 * r → count_by (is_at t c) (v2 r) ≡ cond (nat_eq 2 t) 1 0
unfolding third
count-v2 r t c h = elim (eqb_tells 2 t) [
  | inl (x, e) ↦ subst (λ s. count_by (is_at s c) (v2 r) ≡ cond (nat_eq 2 s) 1 0) e (count_this (32 * r) 2 c (third r) (third_back r) (thirds_inverse r) h)
  | inr (x, ne) ↦ rw x (count_other (32 * r) 2 t c (third r) x)
]

count-buffer : (r t c : ℕ) → t < 3 → c < 32 * r → count_by (is_at t c) (buffer r) ≡ 1
unfolding buffer
count-buffer r t c below h =
    sum_by-append (λ x. cond (is_at t c x) 1 0) (v0 r) (in_turn (v1 r) (v2 r))
    ∙ ap₂ (λ (x y : ℕ). x + y) (count-v0 r t c h) (count-in_turn (is_at t c) (v1 r) (v2 r) ∙ ap₂ (λ (x y : ℕ). x + y) (count-v1 r t c h) (count-v2 r t c h))
    ∙ one t below
  where
    one : (t : ℕ) → t < 3 → cond (nat_eq 0 t) 1 0 + (cond (nat_eq 1 t) 1 0 + cond (nat_eq 2 t) 1 0) ≡ 1
    one zero h = refl
    one (suc zero) h = refl
    one (suc (suc zero)) h = refl
    one (suc (suc (suc t))) h = absurd (omega (arith, h))

-- ---- by index

read_there : (k rv t p n : ℕ) → length (reading k rv) ≡ n → count_by (is_at t p) (reading k rv) ≡ 1 → (i : ℕ) × (i < n) × (item_of k rv i ≡ item t p)
unfolding item_of
read_there k rv t p n count once =
    let (i, below, is) = counted_some (is_at t p) (reading k rv) (item 0 0) (omega (arith, once)) in
    let same : i % length (reading k rv) ≡ i = mod-eq_of_lt below in (
      i,
      omega (arith, below, count),
      ap (λ j. get_or (reading k rv) j (item 0 0)) same ∙ same_item (get_or (reading k rv) i (item 0 0)) t p is,
    )

counted_once : (k rv : ℕ) → IsAnySize k → rv < 4 → (t p : ℕ) → t < 3 → p < k + 4 → count_by (is_at t p) (reading k rv) ≡ 1
unfolding reading
counted_once k rv size version t p below inside =
    let cell_inside : p + nulls (k + 4) < 32 * matrix_rows (k + 4) = omega (arith, inside) in
    count-bits_in (nulls (k + 4)) t p (turned (start k rv) (buffer (matrix_rows (k + 4))))
    ∙ count-turned (is_at t (p + nulls (k + 4))) (start k rv) (buffer (matrix_rows (k + 4)))
    ∙ count-buffer (matrix_rows (k + 4)) t (p + nulls (k + 4)) below cell_inside

read_once : (k rv i j : ℕ) → IsAnySize k → rv < 4 → i < 3 * (k + 4) → j < 3 * (k + 4) → item_of k rv i ≡ item_of k rv j → i ≡ j
unfolding item_of
read_once k rv i j size version hi hj same =
    let count = reading_count k rv size in
    let below_i : i < length (reading k rv) = omega (arith, count, hi) in
    let below_j : j < length (reading k rv) = omega (arith, count, hj) in
    let at : (m : ℕ) → m < length (reading k rv) → get_or (reading k rv) (m % length (reading k rv)) (item 0 0) ≡ get_or (reading k rv) m (item 0 0)
    = λ m inside. ap (λ n. get_or (reading k rv) n (item 0 0)) (mod-eq_of_lt inside) in
    one_index (reading k rv) (item 0 0) i j below_i below_j
    (λ m inside.
    let here = subst (λ p. (p.stream < 3) × (p.index < k + 4)) (at m inside) (item_inside k rv m size) in
    counted_once k rv size version _ _ here.0 here.1)
    (sym (at i below_i) ∙ same ∙ at j below_j)

pub whole : ReadingIsWhole
whole k rv size version = record {
  count = reading_count k rv size;
  reads = record {
    inside = λ i. item_inside k rv i size;
    once = λ i j hi hj same. read_once k rv i j size version hi hj same;
    each = λ t p below inside. read_there k rv t p (3 * (k + 4)) (reading_count k rv size) (counted_once k rv size version t p below inside);
  };
}
