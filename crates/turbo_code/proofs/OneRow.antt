-- Each size has only one row.
use Rattle.std.proofs.Common.{◌≡◌, ℕ, Bool, true, inl, refl}
use Rattle.std.specs.Prelude.{◌&&◌, ◌||◌, not, nat_eq}
use Rattle.std.specs.List.{list_all}
use Rattle.std.proofs.lemmas.Bool.{eqb-true, eq-eqb, and_parts}
use Rattle.turbo_code.specs.declared.rows.Row.{Row}
use Rattle.turbo_code.specs.Table.{rows, further_rows, row, IsRow, IsAnyRow}
use Rattle.turbo_code.proofs.TableFacts.{any_row_passes}

alike : Row → Row → Bool
alike r s = not (nat_eq r.k s.k) || (nat_eq r.f1 s.f1 && nat_eq r.f2 s.f2)

first_alike : Row → Bool
first_alike r = list_all (alike r) rows && list_all (alike r) further_rows

all_alike : list_all first_alike rows ≡ true
unfolding rows further_rows first_alike alike
all_alike = refl

further_alike : list_all first_alike further_rows ≡ true
unfolding rows further_rows first_alike alike
further_alike = refl

-- rows with the same three numbers are equal
pub same_row : (k l f1 g1 f2 g2 : ℕ) → k ≡ l → f1 ≡ g1 → f2 ≡ g2 → row k f1 f2 ≡ row l g1 g2
same_row k l f1 g1 f2 g2 a b c = rw (a, b, c) refl

-- each size has only one row in both tables together
pub one_any_row : (r s : Row) → IsAnyRow r → IsAnyRow s → r.k ≡ s.k → r ≡ s
unfolding first_alike alike
one_any_row r s a b same =
    let both = and_parts (list_all (alike r) rows) (list_all (alike r) further_rows) (any_row_passes first_alike all_alike further_alike r a) in
    let pair : (not (nat_eq r.k s.k) || (nat_eq r.f1 s.f1 && nat_eq r.f2 s.f2)) ≡ true = any_row_passes (alike r) both.0 both.1 s b in
    let fs : (nat_eq r.f1 s.f1 && nat_eq r.f2 s.f2) ≡ true = rw (eq-eqb r.k s.k same) at pair in
    let parts = and_parts (nat_eq r.f1 s.f1) (nat_eq r.f2 s.f2) fs in
    same_row r.k s.k r.f1 s.f1 r.f2 s.f2 same (eqb-true r.f1 s.f1 parts.0) (eqb-true r.f2 s.f2 parts.1)

pub one_row : (r s : Row) → IsRow r → IsRow s → r.k ≡ s.k → r ≡ s
one_row r s a b = one_any_row r s (inl a) (inl b)
