-- The row that `row_for` finds is the only row for a size.
use Rattle.std.proofs.Common.{◌≡◌, ℕ, ◌+◌, ◌++◌, inl, inr, Bool, true, List, length, find, Option, None, Some, nat_eq, refl, ap, sym, subst, ◌∙◌, arith, slice_get}
use Rattle.std.specs.Prelude.{MatchOption}
use Rattle.std.specs.List.{Contains, position_or_len}
use Rattle.std.proofs.lemmas.Bool.{cases_lt, eqb-true, eq-eqb, true≢false}
use Rattle.std.proofs.lemmas.List.Elements.{Contains-append_left, Contains-append_right, Contains-append_cases}
use Rattle.std.proofs.lemmas.List.Folds.{find_at}
use Rattle.std.proofs.lemmas.List.Sums.{passes_at_first, fails_before_first}
use Rattle.std.proofs.lemmas.Option.{none-some, slice_get_within, slice_get-get_or, get_or_from_slice_get}
use Rattle.turbo_code.specs.declared.rows.Row.{Row}
use Rattle.turbo_code.specs.Table.{rows, further_rows, IsSize, IsFurtherRow, IsFurtherSize, IsAnyRow, IsAnySize}
use Rattle.turbo_code.proofs.OneRow.{one_any_row}
use Rattle.turbo_code.proofs.TableFacts.{any_row_of, row_size}
use Rattle.wide_block.specs.Sums.{row_for}
use Rattle.wide_block.specs.Laws.{IsRowFor, RowsAreFound}

-- ---- `find`

-- an item that is found is in the list, and passes
found : {A : Type 0} (p : A → Bool) (xs : List A) (x : A) → find p xs ≡ Some x → Contains xs x × (p x ≡ true)
found p xs x e =
    let at : slice_get xs (position_or_len p xs) ≡ Some x = sym (find_at p xs) ∙ e in
    let inside = slice_get_within xs (position_or_len p xs) x at in
    let is = get_or_from_slice_get xs (position_or_len p xs) x x at in
    ((position_or_len p xs, inside, is), subst (λ y. p y ≡ true) is (passes_at_first p xs x inside))

-- if none is found, no item passes
none_passes : {A : Type 0} (p : A → Bool) (xs : List A) (x : A) → find p xs ≡ None → Contains xs x → p x ≡ true → ⊥
none_passes p xs x e (k, l, is) passes = elim (cases_lt (position_or_len p xs) (length xs)) [
  | inl inside ↦ none-some _ (sym e ∙ find_at p xs ∙ slice_get-get_or xs (position_or_len p xs) x inside)
  | inr past ↦ true≢false (sym passes ∙ ap p (sym is) ∙ fails_before_first p xs k x (omega (arith, l, past)))
]

-- ---- both tables

in_either : (row : Row) → Contains (rows ++ further_rows) row → IsAnyRow row
in_either row h = Contains-append_cases rows further_rows row h

in_both : (row : Row) → IsAnyRow row → Contains (rows ++ further_rows) row
in_both row (inl h) = Contains-append_left rows further_rows row h
in_both row (inr h) = Contains-append_right rows further_rows row h

pub row_found : (size : ℕ) (row : Row) → row_for size ≡ Some row → IsRowFor size row
unfolding row_for
row_found size row e =
    let (inside, passes) = found (λ (r : Row). nat_eq r.k (size + 24)) (rows ++ further_rows) row e in
    let any = in_either row inside in
    let same = eqb-true row.k (size + 24) passes in
    record { is_row = any; fits = same; only = λ other is its. one_any_row other row is any (its ∙ sym same) }

pub no_row : (size : ℕ) → row_for size ≡ None → IsAnySize (size + 24) → ⊥
unfolding row_for
no_row size e any =
    let (row, is, same) = any_row_of (size + 24) any in
    none_passes (λ (r : Row). nat_eq r.k (size + 24)) (rows ++ further_rows) row e (in_both row is) (eq-eqb row.k (size + 24) same)

pub rows_are_found : RowsAreFound
rows_are_found size = settle (row_for size) refl
  where
    settle : (o : Option Row) → row_for size ≡ o → MatchOption o (IsAnySize (size + 24) → ⊥) (IsRowFor size)
    settle None e = no_row size e
    settle (Some row) e = row_found size row e

-- ---- the search in one table, then in the other

pub some_is_found : (size : ℕ) (row : Row) → IsAnyRow row → row.k ≡ size + 24 → Some row ≡ row_for size
some_is_found size row any same = settle (row_for size) refl
  where
    settle : (o : Option Row) → row_for size ≡ o → Some row ≡ row_for size
    settle None e = absurd (no_row size e (subst IsAnySize same (row_size row any)))
    settle (Some r) e = ap Some ((row_found size r e).only row any same) ∙ sym e

none_is_found : (size : ℕ) → (IsSize (size + 24) → ⊥) → (IsFurtherSize (size + 24) → ⊥) → None ≡ row_for size
none_is_found size unused further = settle (row_for size) refl
  where
    in_neither : (r : Row) → IsAnyRow r → r.k ≡ size + 24 → ⊥
    in_neither r (inl h) e = unused (r, h, e)
    in_neither r (inr h) e = further (r, h, e)

    settle : (o : Option Row) → row_for size ≡ o → None ≡ row_for size
    settle None e = sym e
    settle (Some r) e = let is = row_found size r e in absurd (in_neither r is.is_row is.fits)

pub further_is_found : (size : ℕ) (found : Option Row) → (IsSize (size + 24) → ⊥) →
    MatchOption found (IsFurtherSize (size + 24) → ⊥) (λ row. IsFurtherRow row × (row.k ≡ size + 24)) → found ≡ row_for size
further_is_found size None unused further = none_is_found size unused further
further_is_found size (Some row) unused (is, same) = some_is_found size row (inr is) same
