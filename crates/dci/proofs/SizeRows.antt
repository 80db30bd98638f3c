-- Each transport block size plus the CRC's 24 bits is a K in the turbo code's table.
use Rattle.std.proofs.Common.{◌≡◌, ℕ, zero, suc, ◌+◌, ◌<◌, Bool, true, false, List, [], ◌∷◌, length, get_or, Some, refl, subst, arith}
use Rattle.std.specs.Prelude.{if◌then◌else◌, nat_eq, nat_lt, slice_get}
use Rattle.std.specs.List.{list_all, position_or_len}
use Rattle.std.proofs.lemmas.Bool.{eqb-true, ltb-true, and_parts}
use Rattle.std.proofs.lemmas.List.Sums.{passes_at_first}
use Rattle.std.proofs.lemmas.Option.{slice_get_within, get_or_from_slice_get}
use Rattle.turbo_code.specs.Table.{rows, row, IsSize}
use Rattle.turbo_code.proofs.TableFacts.{row_at}
use Rattle.dci.specs.Sizes.{column_2, column_3, size_of}

row_number : ℕ → ℕ
row_number size = position_or_len (λ r. nat_eq r.k (size + 24)) rows

has_row : ℕ → Bool
has_row size = nat_lt (row_number size) 31

all_sized : (list_all has_row column_2 ≡ true) × (list_all has_row column_3 ≡ true)
unfolding column_2 column_3 rows has_row row_number
all_sized = (refl, refl)

length-rows : length rows ≡ 31
unfolding rows
length-rows = refl

is_sized : (size : ℕ) → has_row size ≡ true → IsSize (size + 24)
unfolding has_row row_number
is_sized size has =
    let inside : row_number size < 31 = ltb-true (row_number size) 31 has in
    let all = length-rows in (
      get_or rows (row_number size) (row 0 0 0),
      row_at rows (row_number size) (row 0 0 0) (omega (arith, all, inside)),
      eqb-true _ _ (passes_at_first (λ r. nat_eq r.k (size + 24)) rows (row 0 0 0) (omega (arith, all, inside))),
    )

-- a number in a list passes a test that all its numbers pass
passed : (test : ℕ → Bool) (xs : List ℕ) (i d : ℕ) → list_all test xs ≡ true → i < length xs → test (get_or xs i d) ≡ true
passed test [] i d all inside = absurd (omega (arith, inside))
passed test (x ∷ xs) zero d all inside = (and_parts (test x) (list_all test xs) all).0
passed test (x ∷ xs) (suc i) d all inside = passed test xs i d (and_parts (test x) (list_all test xs) all).1 (omega (arith, inside))

of_column : (column : List ℕ) (mcs size : ℕ) → list_all has_row column ≡ true → slice_get column mcs ≡ Some size → has_row size ≡ true
of_column column mcs size all is =
    subst (λ n. has_row n ≡ true) (get_or_from_slice_get column mcs size 0 is) (passed has_row column mcs 0 all (slice_get_within column mcs size is))

pub size_fits : (mcs column size : ℕ) → size_of mcs column ≡ Some size → IsSize (size + 24)
size_fits mcs column size is = settle (nat_eq column 2) is
  where
    settle : (first : Bool) → slice_get (if first then column_2 else column_3) mcs ≡ Some size → IsSize (size + 24)
    settle true e = is_sized size (of_column column_2 mcs size all_sized.0 e)
    settle false e = is_sized size (of_column column_3 mcs size all_sized.1 e)
