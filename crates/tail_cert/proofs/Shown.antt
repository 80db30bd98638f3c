-- The tables that a set of start states selects.
use Rattle.std.proofs.Common.{◌≡◌, ◌≢◌, ℕ, ◌+◌, ◌*◌, ◌-◌, ◌<◌, ◌≤◌, ◌↔◌, Bool, true, false, cond, List, [], ◌++◌, Some, None, length, take, drop, get_or, set, ℤ, refl, subst, sym, ap, ◌∙◌, arith, append-nil, drop-drop, length-set, get_or-set_other, get_or-set_same}
use Rattle.std.specs.Prelude.{All, is_some}
use Rattle.std.specs.List.{flat_map}
use Rattle.std.proofs.Math.Seq.{take-add}
use Rattle.std.proofs.lemmas.List.{take_rest}
use Rattle.std.proofs.lemmas.List.Elements.{All-set}
use Rattle.finite.specs.Lists.{values_below}
use Rattle.finite.specs.Sums.{total_below}
use Rattle.finite.proofs.Lists.{values_below-length, values_below_at, values_below_is, values_below_same, values_below-All}
use Rattle.finite.proofs.Sums.{total_below_more, total_below_same, total_below_split}
use Rattle.conv_code.specs.Cost.{word_cost}
use Rattle.tail_cert.specs.Certificate.{Held, IsMaybeTable, IsTable, IsWhole, StartHolds, StepsHold, from_any, IsAccepted, tables_there}
use Rattle.tail_cert.specs.Form.{maybe_bytes, set_of, table_bytes, table_count, with_piece}
use Rattle.tail_cert.specs.Stored.{AreStored, IsStored, has_table, shown, shown_at}
use Rattle.tail_cert.proofs.Pieces.{AreWrittenTo, one_more}

some_by : {A : Type 0} (b : Bool) (x : A) → is_some (cond b (Some x) None) ≡ b
some_by true x = refl
some_by false x = refl

-- a state's table is present exactly if the set contains the state
pub some_shown : (set : List Bool) (tables : List (List (List ℕ))) (s : ℕ) → s < 64 → is_some (get_or (shown set tables) s None) ≡ has_table set s
unfolding shown
some_shown set tables s below =
    ap is_some (values_below_at (shown_at set tables) 64 s None below) ∙ some_by (has_table set s) (get_or tables s [])

-- the number of tables present is the number of states in the set
pub as_many : (set : List Bool) (tables : List (List (List ℕ))) → tables_there (shown set tables) ≡ total_below 64 (λ s. cond (has_table set s) 1 0)
as_many set tables = total_below_same 64 (λ s. cond (is_some (get_or (shown set tables) s None)) 1 0) (λ s. cond (has_table set s) 1 0)
    (λ s below. ap (λ b. cond b 1 0) (some_shown set tables s below))

-- the set is recovered from the tables present
pub same_set : (set : List Bool) (tables : List (List (List ℕ))) → length set ≡ 64 → set_of (shown set tables) ≡ set
unfolding set_of
same_set set tables size = sym (values_below_is false 64 (λ i. is_some (get_or (shown set tables) (63 - i) None)) set size (λ i below.
    let back : 63 - (63 - i) ≡ i = omega (arith, below) in
    sym (some_shown set tables (63 - i) (omega (arith, below)) ∙ ap (λ k. get_or set k false) back)))

maybe_table : (b : Bool) (table : List (List ℕ)) → (b ≡ true → IsTable table) → IsMaybeTable (cond b (Some table) None)
maybe_table true table h = h refl
maybe_table false table h = tt

-- a certificate in memory is whole
pub stored_whole : (c : Held) (set : List Bool) (tables : List (List (List ℕ))) → IsStored c.values c.word c.cost c.general set tables →
    c.tables ≡ shown set tables → IsWhole c
unfolding shown
stored_whole c set tables h same = record {
  places = h.places;
  bits = h.bits;
  fits = h.fits;
  general = h.general_is;
  starts = rw same (record {
    count = values_below-length 64 (shown_at set tables);
    all = values_below-All IsMaybeTable 64 (shown_at set tables) None (λ s below.
        maybe_table (has_table set s) (get_or tables s []) (λ there. h.tables_are.each s [] (h.tables_are.room s below there)));
  });
}

-- tables up to one past the set's last state suffice
pub stored_to : (set : List Bool) (tables : List (List (List ℕ))) (end : ℕ) → ((s : ℕ) → s < 64 → has_table set s ≡ true → s < end) → All IsTable tables →
    length tables ≤ 64 → end ≤ length tables → AreStored set tables
stored_to set tables end past each most enough = record {
  each = each;
  most = most;
  room = λ s below there. let p = past s below there in omega (arith, p, enough);
}

-- tables stay stored if one is replaced
pub stored_with : (states : List Bool) (tables : List (List (List ℕ))) (n : ℕ) (table : List (List ℕ)) → AreStored states tables → IsTable table →
    AreStored states (set tables n table)
stored_with states tables n table known whole =
    let size = length-set tables n table in
    record {
      each = All-set IsTable tables n table whole known.each;
      most = omega (arith, known.most, size);
      room = λ s below there. omega (arith, known.room s below there, size);
    }

-- the condition on a start state, with its table selected by the set
pub start_there : (values : List (List ℤ)) (cost : ℕ) (general : List (List ℕ)) (s : ℕ) (table : List (List ℕ)) (b : Bool) → b ≡ true →
    StartHolds values cost general s (Some table) ↔ StartHolds values cost general s (cond b (Some table) None)
start_there values cost general s table true e = ((λ h. h), λ h. h)
start_there values cost general s table false e = absurd (cc e)

-- the conditions on all start states, with their tables selected by the set
pub starts_shown : (values : List (List ℤ)) (cost : ℕ) (general : List (List ℕ)) (set : List Bool) (tables : List (List (List ℕ))) →
    ((s : ℕ) → s < 64 → StartHolds values cost general s (get_or (shown set tables) s None)) ↔
    ((s : ℕ) → s < 64 → StartHolds values cost general s (shown_at set tables s))
unfolding shown
starts_shown values cost general set tables = (
  (λ h s below. subst (StartHolds values cost general s) (values_below_at (shown_at set tables) 64 s None below) (h s below)),
  λ h s below. subst (StartHolds values cost general s) (sym (values_below_at (shown_at set tables) 64 s None below)) (h s below),
)

-- a certificate in memory is accepted exactly if its cost, its general table and all start states hold
pub accepted_by : (values : List (List ℤ)) (word : List Bool) (cost : ℕ) (general : List (List ℕ)) (set : List Bool) (tables kept : List (List (List ℕ))) (P : Type 0) →
    kept ≡ tables → cost ≡ word_cost values word →
    P ↔ (StepsHold values from_any general × ((s : ℕ) → s < 64 → StartHolds values cost general s (shown_at set kept s))) →
    P ↔ IsAccepted (record { values = values; word = word; cost = cost; general = general; tables = shown set tables })
accepted_by values word cost general set tables kept P same stated holds =
    let each = rw same at holds in (
      (λ p. record { stated = stated; general = (each.0 p).0; starts = (starts_shown values cost general set tables).1 (each.0 p).1 }),
      λ accepted. each.1 (accepted.general, (starts_shown values cost general set tables).0 accepted.starts),
    )

-- ---- the number of first states that have a table

pub some_at : (set : List Bool) (tables : List (List (List ℕ))) (s : ℕ) → is_some (shown_at set tables s) ≡ has_table set s
some_at set tables s = some_by (has_table set s) (get_or tables s [])

-- the selected table of a state in the set, and of a state not in it
pub shown_there : (set : List Bool) (tables : List (List (List ℕ))) (s : ℕ) → has_table set s ≡ true → shown_at set tables s ≡ Some (get_or tables s [])
shown_there set tables s there = ap (λ b. cond b (Some (get_or tables s [])) None) there

pub shown_not_there : (set : List Bool) (tables : List (List (List ℕ))) (s : ℕ) → has_table set s ≡ false → shown_at set tables s ≡ None
shown_not_there set tables s none = ap (λ b. cond b (Some (get_or tables s [])) None) none

fewer : (n m : ℕ) (f : ℕ → ℕ) → n ≤ m → total_below n f ≤ total_below m f
fewer n m f few =
    let split = total_below_split n (m - n) f in
    let e : n + (m - n) ≡ m = omega (arith, few) in
    let split' = rw e at split in
    omega (arith, split')

-- after the tables of the first states there is room for one more
pub room_for : (set : List Bool) (tables : List (List (List ℕ))) (n from place len : ℕ) → n < 64 → has_table set n ≡ true →
    from + table_count * total_below 64 (λ s. cond (has_table set s) 1 0) ≤ len →
    place ≡ from + table_count * total_below n (λ s. cond (is_some (shown_at set tables s)) 1 0) → place + table_count ≤ len
room_for set tables n from place len below there room at =
    let same = total_below_same n (λ s. cond (is_some (shown_at set tables s)) 1 0) (λ s. cond (has_table set s) 1 0) (λ s l. ap {B = ℕ} (λ b. cond b 1 0) (some_at set tables s)) in
    let one : cond {A = ℕ} (has_table set n) 1 0 ≡ 1 = ap {B = ℕ} (λ b. cond b 1 0) there in
    let more = total_below_more n (λ s. cond (has_table set s) 1 0) in
    let most = fewer (n + 1) 64 (λ s. cond (has_table set s) 1 0) (omega (arith, below)) in
    omega (arith, room, at, same, one, more, most)

-- tables written state by state are the bytes of the selected tables
pub shown_bytes : (set : List Bool) (tables : List (List (List ℕ))) (from place : ℕ) (old new : List ℕ) → AreWrittenTo (shown_at set tables) from place old new 64 →
    (new ≡ with_piece from (flat_map maybe_bytes (shown set tables)) old) ×
    (length (flat_map maybe_bytes (shown set tables)) ≡ table_count * total_below 64 (λ s. cond (has_table set s) 1 0))
unfolding shown
shown_bytes set tables from place old new w =
    let same = total_below_same 64 (λ s. cond (is_some (shown_at set tables s)) 1 0) (λ s. cond (has_table set s) 1 0) (λ s l. ap {B = ℕ} (λ b. cond b 1 0) (some_at set tables s)) in
    (w.bytes, w.size ∙ ap (λ n. table_count * n) same)

-- ---- tables read, start state by start state

-- the tables of the set's states below n have been read from offset `from` on, and the next is read from offset `place`
pub record AreReadTo (set : List Bool) (tables : List (List (List ℕ))) (from place : ℕ) (bytes : List ℕ) (n : ℕ) : Type 0 where
  pub tables_are : AreStored set tables
  pub read : flat_map maybe_bytes (values_below n (shown_at set tables)) ≡ take (place - from) (drop from bytes)
  pub at : place ≡ from + table_count * total_below n (λ s. cond (is_some (shown_at set tables s)) 1 0)

pub read_none : (set : List Bool) (tables : List (List (List ℕ))) (from : ℕ) (bytes : List ℕ) → AreStored set tables → AreReadTo set tables from from bytes 0
unfolding total_below
read_none set tables from bytes stored = record {
  tables_are = stored;
  read = let e : from - from ≡ 0 = omega arith in rw e refl;
  at = omega arith;
}

-- a state without a table
pub read_not : (set : List Bool) (tables : List (List (List ℕ))) (from place : ℕ) (bytes : List ℕ) (n : ℕ) → AreReadTo set tables from place bytes n → has_table set n ≡ false →
    AreReadTo set tables from place bytes (n + 1)
unfolding maybe_bytes
read_not set tables from place bytes n known none =
    let maybe = shown_not_there set tables n none in
    let same : flat_map maybe_bytes (values_below (n + 1) (shown_at set tables)) ≡ flat_map maybe_bytes (values_below n (shown_at set tables)) =
    one_more n (shown_at set tables) ∙ ap (λ m. flat_map maybe_bytes (values_below n (shown_at set tables)) ++ maybe_bytes m) maybe
    ∙ append-nil (flat_map maybe_bytes (values_below n (shown_at set tables))) in
    let count = total_below_more n (λ s. cond (is_some (shown_at set tables s)) 1 0) in
    let zero : cond {A = ℕ} (is_some (shown_at set tables n)) 1 0 ≡ 0 = ap {B = ℕ} (λ m. cond (is_some m) 1 0) maybe in
    record {
      tables_are = known.tables_are;
      read = same ∙ known.read;
      at = omega (arith, known.at, count, zero);
    }

-- a state with a table
pub read_there : (states : List Bool) (tables : List (List (List ℕ))) (from place : ℕ) (bytes : List ℕ) (n : ℕ) (table : List (List ℕ)) → AreReadTo states tables from place bytes n →
    n < 64 → has_table states n ≡ true → IsTable table → table_bytes table ≡ take table_count (drop place bytes) →
    AreReadTo states (set tables n table) from (place + table_count) bytes (n + 1)
unfolding maybe_bytes
read_there states tables from place bytes n table known below there whole e =
    let inside = known.tables_are.room n below there in
    let at = known.at in
    let before : (s : ℕ) → s < n → shown_at states (set tables n table) s ≡ shown_at states tables s =
    λ s l. let ne : s ≢ n = omega (arith, l) in ap (λ t. cond (has_table states s) (Some t) None) (get_or-set_other tables n s table [] ne) in
    let here : shown_at states (set tables n table) n ≡ Some table =
    shown_there states (set tables n table) n there ∙ ap Some (get_or-set_same tables n table [] inside) in
    let front = ap (flat_map maybe_bytes) (values_below_same n (shown_at states (set tables n table)) (shown_at states tables) before) in
    let next : drop (place - from) (drop from bytes) ≡ drop place bytes =
    drop-drop (place - from) from bytes ∙ ap (λ m. drop m bytes) (let m : from + (place - from) ≡ place = omega (arith, at) in m) in
    let joined : take (place + table_count - from) (drop from bytes) ≡ take (place - from) (drop from bytes) ++ take table_count (drop place bytes) =
    ap (λ m. take m (drop from bytes)) (let m : place + table_count - from ≡ place - from + table_count = omega (arith, at) in m)
    ∙ take-add (place - from) table_count (drop from bytes) ∙ ap (λ l. take (place - from) (drop from bytes) ++ take table_count l) next in
    let count = total_below_more n (λ s. cond (is_some (shown_at states (set tables n table) s)) 1 0) in
    let same = total_below_same n (λ s. cond (is_some (shown_at states (set tables n table) s)) 1 0) (λ s. cond (is_some (shown_at states tables s)) 1 0)
    (λ s l. ap {B = ℕ} (λ m. cond (is_some m) 1 0) (before s l)) in
    let one : cond {A = ℕ} (is_some (shown_at states (set tables n table) n)) 1 0 ≡ 1 = ap {B = ℕ} (λ m. cond (is_some m) 1 0) here in
    record {
      tables_are = stored_with states tables n table known.tables_are whole;
      read = one_more n (shown_at states (set tables n table)) ∙ ap (λ m. flat_map maybe_bytes (values_below n (shown_at states (set tables n table))) ++ maybe_bytes m) here
          ∙ ap (λ l. l ++ table_bytes table) (front ∙ known.read) ∙ ap (λ l. take (place - from) (drop from bytes) ++ l) e ∙ sym joined;
      at = omega (arith, at, count, same, one);
    }

pub all_read : (set : List Bool) (tables : List (List (List ℕ))) (from place : ℕ) (bytes : List ℕ) → AreReadTo set tables from place bytes 64 →
    from + table_count * total_below 64 (λ s. cond (has_table set s) 1 0) ≡ length bytes → flat_map maybe_bytes (shown set tables) ≡ drop from bytes
unfolding shown
all_read set tables from place bytes known size =
    let same = total_below_same 64 (λ s. cond (is_some (shown_at set tables s)) 1 0) (λ s. cond (has_table set s) 1 0) (λ s l. ap {B = ℕ} (λ b. cond b 1 0) (some_at set tables s)) in
    let at = known.at in
    let end : place ≡ length bytes = omega (arith, at, same, size) in
    known.read ∙ ap (λ m. take (m - from) (drop from bytes)) end ∙ take_rest bytes from
