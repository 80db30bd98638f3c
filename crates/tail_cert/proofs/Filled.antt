-- The tables filled so far, start state by start state.
use Rattle.std.proofs.Common.{◌≡◌, ◌≢◌, ℕ, suc, ◌+◌, ◌-◌, ◌^◌, ◌<◌, ◌≤◌, ◌↔◌, Bool, true, false, cond, List, [], Some, None, length, get_or, set, ℤ, sym, subst, ◌∙◌, inl, inr, arith, length-set, get_or-set_other, get_or-set_same, ap, refl}
use Rattle.std.specs.Prelude.{IfSome, IsSome, is_some, nat_lt, replicate}
use Rattle.std.proofs.lemmas.Bool.{cases_lt, lt-ltb, ltb-true, ltb-false}
use Rattle.std.proofs.lemmas.List.{get_or-replicate, get_or_past, length-replicate}
use Rattle.std.proofs.Math.Path.{fun_ext}
use Rattle.trellis.specs.Least.{IsLeastTo}
use Rattle.finite.specs.Sizes.{RowsWithin}
use Rattle.finite.proofs.Lists.{values_below_at}
use Rattle.finite.proofs.Sums.{total_below_same}
use Rattle.conv_code.specs.Cost.{word_cost}
use Rattle.conv_code.proofs.Costs.{word_cost-le}
use Rattle.tailbite.specs.LeastWord.{IsLeastWord}
use Rattle.tailbite.specs.Machine.{shift, step_cost}
use Rattle.tail_cert.specs.Certificate.{Held, IsAccepted, IsLowerBound, IsTable, StartHolds, bound, from_any, tables_there}
use Rattle.tail_cert.specs.Forward.{HasLeastFrom, HasLeastRows, IsFilled, IsTableFrom}
use Rattle.tail_cert.specs.Stored.{AreStored, has_table, shown, shown_at}
use Rattle.tail_cert.proofs.Accept.{steps_hold}
use Rattle.tail_cert.proofs.Shown.{some_shown, starts_shown, stored_with}

-- among the states below n, the set contains those whose bound is below the cost
pub record AreNeededTo (cost : ℕ) (ends : List ℕ) (states : List Bool) (n : ℕ) : Type 0 where
  pub size : length states ≡ 64
  pub needed : (s : ℕ) → s < n → has_table states s ≡ nat_lt (get_or ends s 0) cost

pub needed_none : (cost : ℕ) (ends : List ℕ) → AreNeededTo cost ends (replicate 64 false) 0
needed_none cost ends = record {
  size = length-replicate 64 false;
  needed = λ s below. absurd (omega (arith, below));
}

-- one more state
pub needed_more : (cost : ℕ) (ends : List ℕ) (states : List Bool) (n : ℕ) → AreNeededTo cost ends states n → n < 64 →
    AreNeededTo cost ends (set states (63 - n) (nat_lt (get_or ends n 0) cost)) (n + 1)
needed_more cost ends states n known below =
    let b : Bool = nat_lt (get_or ends n 0) cost in
    record {
      size = length-set states (63 - n) b ∙ known.size;
      needed = λ s h. elim (cases_lt s n) [
        | inl l ↦ let ne : 63 - s ≢ 63 - n = omega (arith, l, below) in rw (get_or-set_other states (63 - n) (63 - s) b false ne) (known.needed s l)
        | inr m ↦
            let e : s ≡ n = omega (arith, h, m) in
            let size = known.size in
            rw e (get_or-set_same states (63 - n) b false (omega (arith, size)))
      ];
    }

-- the tables of the set's states below n hold the minimum costs from those states
pub record AreFilledTo (values : List (List ℤ)) (states : List Bool) (tables : List (List (List ℕ))) (n : ℕ) : Type 0 where
  pub tables_are : AreStored states tables
  pub bounds : (s : ℕ) → s < n → has_table states s ≡ true → IsTableFrom values s (get_or tables s [])

pub filled_none : (values : List (List ℤ)) (states : List Bool) (tables : List (List (List ℕ))) → AreStored states tables → AreFilledTo values states tables 0
filled_none values states tables stored = record {
  tables_are = stored;
  bounds = λ s below there. absurd (omega (arith, below));
}

-- a state that is not in the set
pub without : (values : List (List ℤ)) (states : List Bool) (tables : List (List (List ℕ))) (n : ℕ) → AreFilledTo values states tables n → has_table states n ≡ false →
    AreFilledTo values states tables (n + 1)
without values states tables n known none = record {
  tables_are = known.tables_are;
  bounds = λ s h there. elim (cases_lt s n) [
    | inl l ↦ known.bounds s l there
    | inr m ↦ let e : s ≡ n = omega (arith, h, m) in let there' = rw e at there in absurd (cc (sym none ∙ there'))
  ];
}

-- a state in the set
pub with_table : (values : List (List ℤ)) (states : List Bool) (tables : List (List (List ℕ))) (n : ℕ) (table : List (List ℕ)) → AreFilledTo values states tables n →
    n < 64 → has_table states n ≡ true → IsTable table → IsTableFrom values n table → AreFilledTo values states (set tables n table) (n + 1)
with_table values states tables n table known below there whole holds =
    let inside = known.tables_are.room n below there in
    record {
      tables_are = stored_with states tables n table known.tables_are whole;
      bounds = λ s h own. elim (cases_lt s n) [
        | inl l ↦ let ne : s ≢ n = omega (arith, l) in rw (get_or-set_other tables n s table [] ne) (known.bounds s l own)
        | inr m ↦ let e : s ≡ n = omega (arith, h, m) in rw (e, get_or-set_same tables n table [] inside) holds
      ];
    }

-- ---- the filled certificate

-- a start state holds, whether or not its bound in the general table is below the cost
start_filled : (values : List (List ℤ)) (cost : ℕ) (general : List (List ℕ)) (s : ℕ) (table : List (List ℕ)) (b : Bool) →
    b ≡ nat_lt (bound from_any general 40 s) cost → (b ≡ true → StartHolds values cost [] s (Some table)) →
    StartHolds values cost general s (cond b (Some table) None)
start_filled values cost general s table true e own = own refl
start_filled values cost general s table false e own = ltb-false (bound from_any general 40 s) cost (sym e)

-- a table is present exactly if it is needed
there_where_needed : (set : List Bool) (tables : List (List (List ℕ))) (s m cost : ℕ) → s < 64 → has_table set s ≡ nat_lt m cost →
    IsSome (get_or (shown set tables) s None) ↔ (m < cost)
there_where_needed set tables s m cost below e = (
  (λ some. ltb-true m cost (sym e ∙ sym (some_shown set tables s below) ∙ some)),
  λ low. some_shown set tables s below ∙ e ∙ lt-ltb m cost low,
)

-- a state's table, if present, holds the minimum costs from the state
own_by : (values : List (List ℤ)) (s : ℕ) (table : List (List ℕ)) (b : Bool) → (b ≡ true → HasLeastFrom values s table) →
    IfSome (cond b (Some table) None) (HasLeastFrom values s)
own_by values s table true h = h refl
own_by values s table false h = tt

own_shown : (values : List (List ℤ)) (set : List Bool) (tables : List (List (List ℕ))) (s : ℕ) → s < 64 →
    (has_table set s ≡ true → HasLeastFrom values s (get_or tables s [])) → IfSome (get_or (shown set tables) s None) (HasLeastFrom values s)
unfolding shown
own_shown values set tables s below h =
    subst (λ t. IfSome t (HasLeastFrom values s)) (sym (values_below_at (shown_at set tables) 64 s None below))
    (own_by values s (get_or tables s []) (has_table set s) h)

zero_start : (λ y. get_or (replicate 64 0) y 0) ≡ from_any
zero_start = fun_ext (λ y. elim (cases_lt y 64) [
  | inl below ↦ get_or-replicate 64 y 0 0 below
  | inr past ↦ get_or_past (replicate 64 0) y 0 (omega (arith, past, length-replicate {A = ℕ} 64 0))
])

-- a certificate with small values, their minimum-cost word and such tables is accepted and filled
pub filled : (values copied : List (List ℤ)) (word : List Bool) (cost : ℕ) (general : List (List ℕ)) (set : List Bool) (tables kept : List (List (List ℕ))) →
    copied ≡ values → kept ≡ tables → RowsWithin 2032 values → length values ≡ 40 → IsLeastWord values word → cost ≡ word_cost values word →
    HasLeastRows values (replicate 64 0) general 40 →
    ((s : ℕ) → s < 64 → has_table set s ≡ nat_lt (bound from_any general 40 s) cost) →
    ((s : ℕ) → s < 64 → has_table set s ≡ true → IsTableFrom values s (get_or tables s [])) →
    IsAccepted (record { values = copied; word = word; cost = cost; general = general; tables = shown set kept }) ×
    IsFilled (record { values = copied; word = word; cost = cost; general = general; tables = shown set kept })
filled values copied word cost general set tables kept copy same magnitudes places least stated rows needed bounds = rw (copy, same) (
  record {
    stated = stated;
    general = steps_hold values from_any (replicate 64 0) general (λ x below some. get_or-replicate 64 x 0 0 below) rows;
    starts = (starts_shown values cost general set tables).1 (λ s below.
        start_filled values cost general s (get_or tables s []) (has_table set s) (needed s below) (λ there. (bounds s below there).shows cost lower small));
  },
  record {
    least = λ i x inside below. subst (λ starts. IsLeastTo shift (step_cost values) starts 64 (suc i) x (get_or (get_or general i []) x 0)) zero_start
        ((rows.row i inside).least.least x below);
    needed = λ s below. there_where_needed set tables s (bound from_any general 40 s) cost below (needed s below);
    own = λ s below. own_shown values set tables s below (λ there. (bounds s below there).least);
  },
)
  where
    lower : IsLowerBound values cost
    lower other size = rw stated (least.least other (size ∙ sym places))

    small : cost ≤ 2 ^ 30
    small = let h = word_cost-le 2032 values word magnitudes in omega (arith, h, stated, places)

-- ---- certificates with equal values and costs have equal tables

-- the minimum cost to a state is unique
one_least : (next : ℕ → Bool → ℕ) (c : ℕ → ℕ → Bool → ℕ) (starts : ℕ → ℕ) (limit k x m n : ℕ) → IsLeastTo next c starts limit k x m → IsLeastTo next c starts limit k x n → m ≡ n
one_least next c starts limit k x m n p q =
    let (y, bs, below, size, there, cost) = p.reached in
    let (z, ds, below', size', there', cost') = q.reached in
    let a = p.least z ds below' size' there' in
    let b = q.least y bs below size there in
    omega (arith, a, b, cost, cost')

pub same_count : (c d : Held) → IsFilled c → IsFilled d → c.values ≡ d.values → c.cost ≡ d.cost → tables_there c.tables ≡ tables_there d.tables
same_count c d p q values cost = total_below_same 64 (λ s. cond (is_some (get_or c.tables s None)) 1 0) (λ s. cond (is_some (get_or d.tables s None)) 1 0)
    (λ s below. ap {B = ℕ} (λ b. cond b 1 0) (same_test (is_some (get_or c.tables s None)) (is_some (get_or d.tables s None))
    (λ t. (q.needed s below).1 (rw (same_bound s below, cost) at ((p.needed s below).0 t)))
    (λ t. (p.needed s below).1 (rw (← same_bound s below, ← cost) at ((q.needed s below).0 t)))))
  where
    same_test : (a b : Bool) → (a ≡ true → b ≡ true) → (b ≡ true → a ≡ true) → a ≡ b
    same_test true b to back = sym (to refl)
    same_test false true to back = back refl
    same_test false false to back = refl

    same_bound : (s : ℕ) → s < 64 → bound from_any c.general 40 s ≡ bound from_any d.general 40 s
    same_bound s below = one_least shift (step_cost d.values) from_any 64 40 s (bound from_any c.general 40 s) (bound from_any d.general 40 s)
        (subst (λ v. IsLeastTo shift (step_cost v) from_any 64 40 s (bound from_any c.general 40 s)) values (p.least 39 s (omega arith) below)) (q.least 39 s (omega arith) below)
