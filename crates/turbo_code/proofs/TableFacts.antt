-- Facts about each row in the table, by computation.
use Rattle.std.proofs.Common.{◌≡◌, ℕ, zero, suc, ◌+◌, ◌*◌, ◌<◌, ◌≤◌, ◌⊎◌, inl, inr, Bool, true, List, [], ◌∷◌, length, get_or, refl, ap, subst, ◌∙◌, arith}
use Rattle.std.specs.Prelude.{◌&&◌, nat_eq, nat_le, nat_lt}
use Rattle.std.specs.List.{Contains, list_all}
use Rattle.std.proofs.lemmas.Bool.{eqb-true, leb-true, ltb-true, and_parts}
use Rattle.std.proofs.lemmas.List.{get_or_default}
use Rattle.std.proofs.lemmas.List.Elements.{Contains-get_or}
use Rattle.sub_block.specs.Matrix.{columns, matrix_rows, nulls, turbo_columns}
use Rattle.sub_block.specs.Items.{bits_in}
use Rattle.turbo_code.specs.declared.rows.Row.{Row}
use Rattle.turbo_code.specs.Table.{rows, further_rows, row, IsRow, IsAnyRow, IsAnySize}
use Rattle.turbo_code.specs.Reading.{buffer}

-- item k in a list passes a test that all items pass
passes : (test : Row → Bool) (rs : List Row) → list_all test rs ≡ true → (k : ℕ) (r : Row) → k < length rs → get_or rs k r ≡ r → test r ≡ true
passes test [] h k r l e = absurd (omega (arith, l))
passes test (x ∷ xs) h zero r l e = subst (λ y. test y ≡ true) e (and_parts (test x) (list_all test xs) h).0
passes test (x ∷ xs) h (suc k) r l e = passes test xs (and_parts (test x) (list_all test xs) h).1 k r (omega (arith, l)) e

pub row_passes : (test : Row → Bool) → list_all test rows ≡ true → (r : Row) → IsRow r → test r ≡ true
row_passes test h r (k, l, e) = passes test rows h k r l e

pub any_row_passes : (test : Row → Bool) → list_all test rows ≡ true → list_all test further_rows ≡ true → (r : Row) → IsAnyRow r → test r ≡ true
any_row_passes test h further r (inl (k, l, e)) = passes test rows h k r l e
any_row_passes test h further r (inr (k, l, e)) = passes test further_rows further k r l e

-- ---- bounds on a row's numbers

pub record IsSmall (r : Row) : Type 0 where
  pub low : 56 ≤ r.k
  pub high : r.k ≤ 1024
  pub f1 : r.f1 < 256
  pub f2 : r.f2 < 256

small_test : Row → Bool
small_test r = (nat_le 56 r.k && nat_le r.k 1024) && (nat_lt r.f1 256 && nat_lt r.f2 256)

all_small : list_all small_test rows ≡ true
unfolding rows small_test
all_small = refl

all_further_small : list_all small_test further_rows ≡ true
unfolding further_rows small_test
all_further_small = refl

pub is_small : (r : Row) → IsAnyRow r → IsSmall r
unfolding small_test
is_small r h =
    let parts = and_parts (nat_le 56 r.k && nat_le r.k 1024) (nat_lt r.f1 256 && nat_lt r.f2 256) (any_row_passes small_test all_small all_further_small r h) in
    let ks = and_parts (nat_le 56 r.k) (nat_le r.k 1024) parts.0 in
    let fs = and_parts (nat_lt r.f1 256) (nat_lt r.f2 256) parts.1 in
    record {
      low = leb-true 56 r.k ks.0;
      high = leb-true r.k 1024 ks.1;
      f1 = ltb-true r.f1 256 fs.0;
      f2 = ltb-true r.f2 256 fs.1;
    }

pub record IsSmallSize (k : ℕ) : Type 0 where
  pub low : 56 ≤ k
  pub high : k ≤ 1024

-- a row for each size
pub any_row_of : (k : ℕ) → IsAnySize k → (r : Row) × IsAnyRow r × (r.k ≡ k)
any_row_of k (inl (r, h, e)) = (r, inl h, e)
any_row_of k (inr (r, h, e)) = (r, inr h, e)

pub is_small_size : (k : ℕ) → IsAnySize k → IsSmallSize k
is_small_size k size =
    let (r, h, e) = any_row_of k size in
    let small = is_small r h in
    record { low = omega (arith, small.low, e); high = omega (arith, small.high, e) }

pub row_size : (r : Row) → IsAnyRow r → IsAnySize r.k
row_size r (inl h) = inl (r, h, refl)
row_size r (inr h) = inr (r, h, refl)

-- ---- the buffer without its nulls has 3(K + 4) bits

count_test : Row → Bool
count_test r = nat_eq (length (bits_in (nulls (r.k + 4)) (buffer (matrix_rows (r.k + 4))))) (3 * (r.k + 4))

all_counted : list_all count_test rows ≡ true
unfolding rows count_test bits_in buffer columns turbo_columns
all_counted = refl

all_further_counted : list_all count_test further_rows ≡ true
unfolding further_rows count_test bits_in buffer columns turbo_columns
all_further_counted = refl

pub bits_count : (k : ℕ) → IsAnySize k → length (bits_in (nulls (k + 4)) (buffer (matrix_rows (k + 4)))) ≡ 3 * (k + 4)
unfolding count_test
bits_count k size =
    let (r, h, e) = any_row_of k size in
    subst (λ n. length (bits_in (nulls (n + 4)) (buffer (matrix_rows (n + 4)))) ≡ 3 * (n + 4)) e
    (eqb-true _ _ (any_row_passes count_test all_counted all_further_counted r h))

-- ---- the search for a row in a list

pub row_at : (rows : List Row) (k : ℕ) (d : Row) → k < length rows → Contains rows (get_or rows k d)
row_at rows k d h = Contains-get_or rows k d h

pub none_so_far : (rows : List Row) (size i : ℕ) → ((get_or rows i (row 0 0 0)).k ≡ size + 24 → ⊥) →
    ((j : ℕ) → j < i → (get_or rows j (row 0 0 0)).k ≡ size + 24 → ⊥) → (j : ℕ) → j < i + 1 → (get_or rows j (row 0 0 0)).k ≡ size + 24 → ⊥
none_so_far rows size i here before j below = settle (last_or_before j i below)
  where
    last_or_before : (j i : ℕ) → j < i + 1 → (j ≡ i) ⊎ (j < i)
    last_or_before j i h = grind arith

    settle : (j ≡ i) ⊎ (j < i) → (get_or rows j (row 0 0 0)).k ≡ size + 24 → ⊥
    settle (inl e) = rw e here
    settle (inr l) = before j l

pub none_at_all : (rows : List Row) (size i : ℕ) → length rows ≤ i → ((j : ℕ) → j < i → (get_or rows j (row 0 0 0)).k ≡ size + 24 → ⊥) →
    ((r : Row) × Contains rows r × (r.k ≡ size + 24)) → ⊥
none_at_all rows size i past none (r, (k, l, e), is) =
    let inside : k < i = omega (arith, l, past) in
    none k inside (ap (λ (r : Row). r.k) (get_or_default rows k (row 0 0 0) r l ∙ e) ∙ is)
