-- The rows of minimum costs, one after another.
use Rattle.std.proofs.Common.{◌≡◌, ◌≢◌, ℕ, suc, ◌+◌, ◌*◌, ◌^◌, ◌<◌, ◌≤◌, List, [], length, get_or, set, ℤ, refl, ◌∙◌, inl, inr, arith, get_or-set_other, get_or-set_same}
use Rattle.std.proofs.lemmas.Bool.{cases_lt}
use Rattle.std.proofs.lemmas.List.{get_or_default}
use Rattle.trellis.proofs.Rows.{row_first}
use Rattle.tailbite.specs.Costs.{AreCosts, shared_least}
use Rattle.tailbite.specs.Machine.{shift, step_cost, first_from, forward_least}
use Rattle.tailbite.proofs.Edges.{forward_row_is}
use Rattle.tailbite.proofs.Pairs.{shared_least-is}
use Rattle.tail_cert.specs.Certificate.{IsTable}
use Rattle.tail_cert.specs.Forward.{IsStepRow, HasLeastRows}

pub start_row : (values : List (List ℤ)) (start : List ℕ) → length start ≡ 64 → ((y : ℕ) → y < 64 → get_or start y 0 ≤ 2 ^ 30) → IsStepRow values start 0 start
start_row values start size room = record {
  size = size;
  least = row_first shift (step_cost values) (λ y. get_or start y 0) 64 (2 ^ 30) (3 * 2 ^ 20) start (λ x below. refl) room;
}

pub later_row : (values : List (List ℤ)) (start : List ℕ) (k : ℕ) (row later : List ℕ) → IsStepRow values start k row → length later ≡ 64 →
    ((x : ℕ) → x < 64 → get_or later x 0 ≡ forward_least (get_or values k []) row x) →
    ((x : ℕ) → x < 64 → get_or later x 0 ≤ get_or row (first_from x) 0 + 3 * 2 ^ 20) → IsStepRow values start (suc k) later
later_row values start k row later known size step growth = record {
  size = size;
  least = forward_row_is values (λ y. get_or start y 0) (2 ^ 30) (3 * 2 ^ 20) k row later known.least step growth;
}

-- the next row, computed from a table of costs
pub row_by_table : (values : List (List ℤ)) (start : List ℕ) (k : ℕ) (costs row later : List ℕ) → AreCosts (get_or values k []) costs →
    IsStepRow values start k row → length later ≡ 64 →
    ((x : ℕ) → x < 64 → get_or later x 0 ≡ shared_least costs row x) →
    ((x : ℕ) → x < 64 → get_or later x 0 ≤ get_or row (first_from x) 0 + 3 * 2 ^ 20) → IsStepRow values start (suc k) later
row_by_table values start k costs row later are known size step growth =
    later_row values start k row later known size (λ x below. step x below ∙ shared_least-is (get_or values k []) costs row x are below) growth

pub no_rows : (values : List (List ℤ)) (start : List ℕ) (table : List (List ℕ)) → HasLeastRows values start table 0
no_rows values start table = record { row = λ i below. absurd (omega arith) }

pub rows_more : (values : List (List ℤ)) (start : List ℕ) (table : List (List ℕ)) (k : ℕ) (row : List ℕ) → k < length table →
    HasLeastRows values start table k → IsStepRow values start (suc k) row → HasLeastRows values start (set table k row) (suc k)
rows_more values start table k row inside known here = record {
  row = λ i below. elim (cases_lt i k) [
    | inl h ↦ let ne : i ≢ k = omega arith in rw (get_or-set_other table k i row [] ne) (known.row i h)
    | inr h ↦ let e : i ≡ k = omega arith in rw (e, get_or-set_same table k row [] inside) here
  ];
}

-- rows of minimum costs are within a table's range
pub rows_fit : (values : List (List ℤ)) (start : List ℕ) (table : List (List ℕ)) → length table ≡ 40 → HasLeastRows values start table 40 → IsTable table
rows_fit values start table size rows = record {
  count = size;
  all = λ i d inside.
      let row = rows.row i (omega (arith, size)) in
      rw (get_or_default table i d [] inside) (record {
        count = row.size;
        all = λ x e there.
            let long = row.size in
            let room = row.least.room x (omega (arith, there, long)) in
            rw (get_or_default (get_or table i []) x e 0 there) (omega (arith, room, size, inside));
      });
}
