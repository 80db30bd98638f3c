-- Rows of the interleaver table, and the sizes in the transport block size table.
use Rattle.std.proofs.Common.{◌≡◌, ℕ, ◌+◌, ◌≤◌, Bool, true, false, length, Option, Some, None, inl, refl, ap, sym, subst, ◌∙◌, arith}
use Rattle.std.specs.Prelude.{if◌then◌else◌, ◌&&◌, nat_eq, slice_get, IfSome}
use Rattle.std.specs.List.{list_all}
use Rattle.std.proofs.lemmas.Bool.{eqb-true, and_parts}
use Rattle.std.proofs.lemmas.Option.{slice_get_within}
use Rattle.dci.specs.Sizes.{column_2, column_3, size_of}
use Rattle.dci.proofs.SizeRows.{size_fits}
use Rattle.turbo_code.specs.declared.rows.Row.{Row}
use Rattle.turbo_code.specs.Table.{rows, IsRow, IsSize}
use Rattle.turbo_code.proofs.TableFacts.{row_passes, is_small_size}
use Rattle.turbo_code.proofs.OneRow.{same_row}
use Rattle.cell_plan.specs.Transport.{row_with}

-- the table's entry, if there is one, has a row
pub entries_fit : (mcs column : ℕ) (entry : Option ℕ) → entry ≡ size_of mcs column → IfSome entry (λ size. IsSize (size + 24))
entries_fit mcs column None is = cc
entries_fit mcs column (Some size) is = size_fits mcs column size (sym is)

pub entries_small : (entry : Option ℕ) → IfSome entry (λ size. IsSize (size + 24)) → IfSome entry (λ size. size ≤ 1000)
entries_small None fits = cc
entries_small (Some size) fits = omega (arith, (is_small_size (size + 24) (inl fits)).high)

-- ---- rows by K

is_itself : Row → Bool
is_itself r = nat_eq (row_with r.k).k r.k && nat_eq (row_with r.k).f1 r.f1 && nat_eq (row_with r.k).f2 r.f2

all_themselves : list_all is_itself rows ≡ true
unfolding rows is_itself row_with
all_themselves = refl

pub row_with_is : (r : Row) → IsRow r → row_with r.k ≡ r
unfolding is_itself
row_with_is r h =
    let s : Row = row_with r.k in
    let parts = and_parts (nat_eq s.k r.k && nat_eq s.f1 r.f1) (nat_eq s.f2 r.f2) (row_passes is_itself all_themselves r h) in
    let fronts = and_parts (nat_eq s.k r.k) (nat_eq s.f1 r.f1) parts.0 in
    same_row s.k r.k s.f1 r.f1 s.f2 r.f2 (eqb-true s.k r.k fronts.0) (eqb-true s.f1 r.f1 fronts.1) (eqb-true s.f2 r.f2 parts.1)

-- this is the interleaver table's row for k
pub record IsRowOf (k : ℕ) (row : Row) : Type 0 where
  pub is : IsRow row
  pub size : row.k ≡ k

pub row_of_size : (k : ℕ) → IsSize k → IsRowOf k (row_with k)
row_of_size k (r, is, size) =
    let same : r ≡ row_with k = sym (row_with_is r is) ∙ ap row_with size in
    subst (IsRowOf k) same (record { is = is; size = size })

-- ---- modulation and coding schemes with a size

length-columns : (length column_2 ≡ 22) × (length column_3 ≡ 17)
unfolding column_2 column_3
length-columns = (refl, refl)

pub mcs_small : (mcs column size : ℕ) → size_of mcs column ≡ Some size → mcs ≤ 26
mcs_small mcs column size is = settle (nat_eq column 2) is
  where
    settle : (first : Bool) → slice_get (if first then column_2 else column_3) mcs ≡ Some size → mcs ≤ 26
    settle true e = let l = slice_get_within column_2 mcs size e in let all = length-columns.0 in omega (arith, l, all)
    settle false e = let l = slice_get_within column_3 mcs size e in let all = length-columns.1 in omega (arith, l, all)
