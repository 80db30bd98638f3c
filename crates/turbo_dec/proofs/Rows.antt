-- The forward recursion's rows.
use Rattle.std.proofs.Common.{◌≡◌, ◌≢◌, ℕ, suc, ◌+◌, ◌<◌, ◌≤◌, List, [], length, get_or, set, ℤ, ◌+ℤ◌, inl, inr, arith, get_or-set_other, get_or-set_same}
use Rattle.std.specs.Prelude.{nat_eq, cond, true, false}
use Rattle.std.proofs.lemmas.Bool.{cases_lt}
use Rattle.turbo_dec.specs.Decoder.{Values, at}
use Rattle.turbo_code.specs.Machine.{next, first_from, second_from, bit_to}
use Rattle.turbo_dec.specs.Costs.{step_cost, starts, far, forward_least, IsForwardRow, HasRows}
use Rattle.trellis.proofs.Rows.{row_first, row_later}
use Rattle.turbo_code.proofs.Edges.{edges, next_below}

pub first_row : (v : Values) (row : List ℕ) → ((x : ℕ) → x < 8 → get_or row x 0 ≡ starts x) → IsForwardRow v 0 row
first_row v row is = row_first next (step_cost v) starts 8 far 12288 row is (λ x below. rw (is x below) (starts_le x))
  where
    starts_le : (x : ℕ) → starts x ≤ far
    starts_le x = elim (nat_eq x 0) as (λ t. cond t 0 far ≤ far) [ true ↦ omega arith | false ↦ omega arith ]

pub later_row : (v : Values) (k : ℕ) (row later : List ℕ) (sum parity : ℤ) → IsForwardRow v k row →
    sum ≡ at v.systematic k +ℤ at v.prior k → parity ≡ at v.parity k →
    ((x : ℕ) → x < 8 → get_or later x 0 ≡ forward_least sum parity row x) →
    ((x : ℕ) → x < 8 → get_or later x 0 ≤ get_or row (first_from x) 0 + 12288) →
    IsForwardRow v (suc k) later
later_row v k row later sum parity known s p step growth =
    row_later next (step_cost v) starts 8 far 12288 k first_from (λ x. bit_to (first_from x) x) second_from (λ x. bit_to (second_from x) x) row later
    next_below edges known (λ x below. rw (← s, ← p) (step x below)) growth

pub rows_first : (v : Values) (rows : List (List ℕ)) (row : List ℕ) → 0 < length rows → IsForwardRow v 0 row → HasRows v (set rows 0 row) 0
rows_first v rows row inside h = record {
  row = λ j below.
      let e : j ≡ 0 = omega arith in rw (e, get_or-set_same rows 0 row [] inside) h;
}

pub rows_more : (v : Values) (rows : List (List ℕ)) (row : List ℕ) (k : ℕ) → suc k < length rows → HasRows v rows k → IsForwardRow v (suc k) row →
    HasRows v (set rows (suc k) row) (suc k)
rows_more v rows row k inside known h = record {
  row = λ j below. elim (cases_lt j (suc k)) [
    | inl lower ↦
        let ne : j ≢ suc k = omega arith in
        rw (get_or-set_other rows (suc k) j row [] ne) (known.row j (omega arith))
    | inr here ↦ let e : j ≡ suc k = omega arith in rw (e, get_or-set_same rows (suc k) row [] inside) h
  ];
}
