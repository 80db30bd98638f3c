-- Integer tables that accumulate a list of values, each at its row and column.
use Rattle.std.proofs.Common.{◌≡◌, ℕ, ◌+◌, ◌*◌, ◌<◌, ◌≤◌, Bool, true, false, List, [], length, get_or, replicate, ℤ, pos, ◌+ℤ◌, refl, ap, sym, ◌∙◌, arith, inl, inr, get_or-set_other, get_or-set_same}
use Rattle.std.specs.Prelude.{nat_abs, nat_eq, cond, ◌&&◌}
use Rattle.std.proofs.lemmas.Bool.Decides.{eqb_tells}
use Rattle.std.proofs.lemmas.Int.{ints}
use Rattle.std.proofs.lemmas.List.{get_or-replicate, length-replicate, length-set}
use Rattle.finite.specs.Lists.{values_below}
use Rattle.finite.specs.Sums.{sum_below}
use Rattle.finite.specs.Tables.{sum_at, sums_with}
use Rattle.finite.proofs.Integers.{abs-sum}
use Rattle.finite.proofs.Lists.{values_below_is}
use Rattle.finite.proofs.Sums.{sum_below_none, sum_below_more}

plus_zero : (z : ℤ) → z ≡ z +ℤ pos 0
plus_zero z = omega (arith, ints)

no_larger : (b : Bool) (v : ℤ) (bound : ℕ) → nat_abs v ≤ bound → nat_abs (cond b v (pos 0)) ≤ bound
no_larger true v bound h = h
no_larger false v bound h = omega arith

-- ---- one value

-- every entry after v was added at row p, column q
pub added_at : (table : List (List ℤ)) (p q r c : ℕ) (v : ℤ) → p < length table → q < length (get_or table p []) →
    sum_at (sums_with table p q v) r c ≡ sum_at table r c +ℤ cond (nat_eq p r && nat_eq q c) v (pos 0)
added_at table p q r c v inside inside' = elim (eqb_tells p r) [
  | inl (b, e) ↦ elim (eqb_tells q c) [
    | inl (b', e') ↦ rw (b, b', ← e, ← e') (rw (get_or-set_same table p _ [] inside, get_or-set_same (get_or table p []) q _ (pos 0) inside') refl)
    | inr (b', ne) ↦ rw (b, b', ← e) (rw (get_or-set_same table p _ [] inside, get_or-set_other (get_or table p []) q c _ (pos 0) (λ h. ne (sym h))) (plus_zero _))
  ]
  | inr (b, ne) ↦ rw b (rw (get_or-set_other table p r _ [] (λ h. ne (sym h))) (plus_zero _))
]

-- adding to an entry keeps the row lengths
pub added_length : (table : List (List ℤ)) (p q r : ℕ) (v : ℤ) → p < length table → length (get_or (sums_with table p q v) r []) ≡ length (get_or table r [])
added_length table p q r v inside = elim (eqb_tells p r) [
  | inl (b, e) ↦ rw (← e) (rw (get_or-set_same table p _ [] inside) (length-set (get_or table p []) q _))
  | inr (b, ne) ↦ rw (get_or-set_other table p r _ [] (λ h. ne (sym h))) refl
]

-- ---- sums over a list

-- the contribution of value i to the entry at row r, column c
abbrev pub share : (ℕ → ℕ) → (ℕ → ℕ) → List ℤ → ℕ → ℕ → ℕ → ℤ
share row_of column_of values r c i = cond (nat_eq (row_of i) r && nat_eq (column_of i) c) (get_or values i (pos 0)) (pos 0)

-- the table holds the sums of the first m values, each added at its row and column, and each entry is bounded
pub record AreSums (rows columns bound : ℕ) (row_of column_of : ℕ → ℕ) (values : List ℤ) (m : ℕ) (sums : List (List ℤ)) : Type 0 where
  pub size : length sums ≡ rows
  pub row : (r : ℕ) → r < rows → length (get_or sums r []) ≡ columns
  pub at : (r c : ℕ) → r < rows → c < columns → sum_at sums r c ≡ sum_below m (share row_of column_of values r c)
  pub small : (r c : ℕ) → r < rows → c < columns → nat_abs (sum_at sums r c) ≤ m * bound

-- before the first value, the table is all zeros
pub sums_none : (rows columns bound : ℕ) (row_of column_of : ℕ → ℕ) (values : List ℤ) →
    AreSums rows columns bound row_of column_of values 0 (replicate rows (replicate columns (pos 0)))
sums_none rows columns bound row_of column_of values = record {
  size = length-replicate rows (replicate columns (pos 0));
  row = λ r h. ap length (row r h) ∙ length-replicate columns (pos 0);
  at = λ r c h below. zero_at r c h below ∙ sym (sum_below_none _);
  small = λ r c h below. let e = zero_at r c h below in rw e (omega arith);
}
  where
    row : (r : ℕ) → r < rows → get_or (replicate rows (replicate columns (pos 0))) r [] ≡ replicate columns (pos 0)
    row r h = get_or-replicate rows r (replicate columns (pos 0)) [] h

    zero_at : (r c : ℕ) → r < rows → c < columns → sum_at (replicate rows (replicate columns (pos 0))) r c ≡ pos 0
    zero_at r c h below = ap (λ xs. get_or xs c (pos 0)) (row r h) ∙ get_or-replicate columns c (pos 0) (pos 0) below

-- the table after one more value, added at row p and column q
pub sums_more : (rows columns bound : ℕ) (row_of column_of : ℕ → ℕ) (values : List ℤ) (m : ℕ) (sums : List (List ℤ)) (p q : ℕ) (v : ℤ) → p ≡ row_of m → q ≡ column_of m →
    p < rows → q < columns → v ≡ get_or values m (pos 0) → nat_abs v ≤ bound →
    AreSums rows columns bound row_of column_of values m sums → AreSums rows columns bound row_of column_of values (m + 1) (sums_with sums p q v)
sums_more rows columns bound row_of column_of values m sums p q v here there inside inside' is size known =
    let inside_sums : p < length sums = let e = known.size in omega (arith, e, inside) in
    let inside_row : q < length (get_or sums p []) = let e = known.row p inside in omega (arith, e, inside') in
    record {
      size = length-set sums p _ ∙ known.size;
      row = λ r h. added_length sums p q r v inside_sums ∙ known.row r h;
      at = λ r c h below.
          added_at sums p q r c v inside_sums inside_row
          ∙ ap (λ z. z +ℤ cond (nat_eq p r && nat_eq q c) v (pos 0)) (known.at r c h below)
          ∙ rw (here, there, is) (sym (sum_below_more m _));
      small = λ r c h below.
          let e = added_at sums p q r c v inside_sums inside_row in
          let old = known.small r c h below in
          let new = no_larger (nat_eq p r && nat_eq q c) v bound size in
          let both = abs-sum (sum_at sums r c) (cond (nat_eq p r && nat_eq q c) v (pos 0)) in
          let more : (m + 1) * bound ≡ m * bound + bound = omega arith in
          rw (e, more) (omega (arith, old, new, both));
    }

-- after all values, the table is the table of their sums
pub sums_all : (rows columns bound : ℕ) (row_of column_of : ℕ → ℕ) (values : List ℤ) (m : ℕ) (sums : List (List ℤ)) → AreSums rows columns bound row_of column_of values m sums →
    sums ≡ values_below rows (λ r. values_below columns (λ c. sum_below m (share row_of column_of values r c)))
sums_all rows columns bound row_of column_of values m sums known =
    values_below_is [] rows _ sums known.size (λ r h. values_below_is (pos 0) columns _ (get_or sums r []) (known.row r h) (λ c below. known.at r c h below))
