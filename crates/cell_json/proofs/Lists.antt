-- Lists of values, item by item.
use Rattle.std.proofs.Common.{◌≡◌, get_or, add-one, drop-cons, length-append, ℕ, suc, ◌+◌, ◌<◌, ◌≤◌, List, [], ◌∷◌, ◌++◌, length, drop, Bool, true, false, ◌&&◌, Option, Some, None, option_map, option_and_then, is_some, refl, nat_le, le-leb, sym, ap, ◌∙◌, arith, append_assoc}
use Rattle.std.specs.List.{list_all}
use Rattle.std.proofs.lemmas.Bool.Decides.{nat_tests}
use Rattle.std.proofs.Math.ListN.{drop_of_length-le}
use Rattle.std.proofs.lemmas.List.{append-nil}
use Rattle.serde_json.specs.Data.{Data, Items}
use Rattle.serde_json.specs.View.{view, items_view}
use Rattle.serde_json.specs.Events.{items_len}
use Rattle.serde_json.specs.Find.{as_array}
use Rattle.serde_json.proofs.Views.{items_len-items_view}
use Rattle.serde_json.specs.declared.value.Value.{Value}
use Rattle.cell_json.specs.Kinds.{given, each, items_within}

-- `given` has a value exactly if its test holds
pub is_given : {A : Type 0} (test : Bool) (value : A) → test ≡ is_some (given test value)
is_given true value = refl
is_given false value = refl

-- a range test on the items is a range test on the list's length
pub counted : (vs : List Value) (json : Data) (least most : ℕ) → Some (items_view vs) ≡ as_array json
    → items_within least most json ≡ given (nat_le least (length vs) && nat_le (length vs) most) (items_view vs)
counted vs json least most e = ap (λ found. option_and_then (λ items. given (nat_le least (items_len items) && nat_le (items_len items) most) items) found) (sym e)
    ∙ ap (λ n. given (nat_le least n && nat_le n most) (items_view vs)) (items_len-items_view vs)

-- items whose count is in the range pass the range test
pub so_many : (n least most : ℕ) (items : Items) → least ≤ n → n ≤ most → Some items ≡ given (nat_le least n && nat_le n most) items
so_many n least most items above below =
    let a : nat_le least n ≡ true = le-leb _ _ above in
    let b : nat_le n most ≡ true = le-leb _ _ below in
    rw (a, b) refl

pub not_so_many : (n least most : ℕ) (items : Items) → (least ≤ n → n ≤ most → ⊥) → None ≡ given (nat_le least n && nat_le n most) items
not_so_many n least most items missed = settle (nat_le least n) (nat_le n most) refl refl
  where
    settle : (a b : Bool) → nat_le least n ≡ a → nat_le n most ≡ b → None ≡ given (nat_le least n && nat_le n most) items
    settle true true e f = absurd (missed (grind (arith, nat_tests, e)) (grind (arith, nat_tests, f)))
    settle true false e f = rw (e, f) refl
    settle false b e f = rw e refl

module _ {A : Type 0} (kind : Data → Option A) where
  all_there : (o : Option A) (rest : Option (List A)) → is_some (option_and_then (λ x. option_and_then (λ xs. Some (x ∷ xs)) rest) o) ≡ (is_some o && is_some rest)
  all_there None rest = refl
  all_there (Some x) None = refl
  all_there (Some x) (Some xs) = refl

  -- a list has the kind if each item has it
  pub all_are : (test : Value → Bool) → ((v : Value) → test v ≡ is_some (kind (view v))) → (vs : List Value)
      → list_all test vs ≡ is_some (each kind (items_view vs))
  all_are test same [] = refl
  all_are test same (v ∷ vs) = rw (same v, all_are test same vs) (sym (all_there (kind (view v)) (each kind (items_view vs))))

  whole_list : (o : Option (List A)) → o ≡ option_map (λ more. [] ++ more) o
  whole_list None = refl
  whole_list (Some xs) = refl

  one_more : (found : List A) (x : A) (rest : Option (List A)) → option_map (λ more. found ++ more) (option_and_then (λ xs. Some (x ∷ xs)) rest)
      ≡ option_map (λ more. (found ++ x ∷ []) ++ more) rest
  one_more found x None = refl
  one_more found x (Some xs) = ap Some (sym (append_assoc found (x ∷ []) xs))

  -- the first i items are read: their values, followed by those of the remaining items, are the list's values
  pub record IsReadTo (vs : List Value) (i : ℕ) (found : List A) : Type 0 where
    pub count : length found ≡ i
    pub rest : each kind (items_view vs) ≡ option_map (λ more. found ++ more) (each kind (items_view (drop i vs)))

  pub read_begins : (vs : List Value) → IsReadTo vs 0 []
  read_begins vs = record { count = refl; rest = whole_list (each kind (items_view vs)) }

  -- the item at index i is the first of the remaining items
  left : (vs : List Value) (i : ℕ) (v : Value) → i < length vs → v ≡ get_or vs i v → drop i vs ≡ v ∷ drop (i + 1) vs
  left vs i v h is = rw add-one (drop-cons vs i v h ∙ ap (λ y. y ∷ drop (suc i) vs) (sym is))

  pub read_goes_on : (vs : List Value) (i : ℕ) (found : List A) (v : Value) (x : A) → IsReadTo vs i found → i < length vs → v ≡ get_or vs i v
      → Some x ≡ kind (view v) → IsReadTo vs (i + 1) (found ++ x ∷ [])
  read_goes_on vs i found v x so_far h is e = record {
    count = length-append found (x ∷ []) ∙ ap (λ n. n + 1) so_far.count;
    rest = so_far.rest ∙ ap (λ ys. option_map (λ more. found ++ more) (each kind (items_view ys))) (left vs i v h is)
        ∙ ap (λ o. option_map (λ more. found ++ more) (option_and_then (λ y. option_and_then (λ ys. Some (y ∷ ys)) (each kind (items_view (drop (i + 1) vs)))) o)) (sym e)
        ∙ one_more found x (each kind (items_view (drop (i + 1) vs)));
  }

  pub read_stops : (vs : List Value) (i : ℕ) (found : List A) (v : Value) → IsReadTo vs i found → i < length vs → v ≡ get_or vs i v
      → None ≡ kind (view v) → None ≡ each kind (items_view vs)
  read_stops vs i found v so_far h is e = sym (so_far.rest ∙ ap (λ ys. option_map (λ more. found ++ more) (each kind (items_view ys))) (left vs i v h is)
      ∙ ap (λ o. option_map (λ more. found ++ more) (option_and_then (λ y. option_and_then (λ ys. Some (y ∷ ys)) (each kind (items_view (drop (i + 1) vs)))) o)) (sym e))

  pub read_ends : (vs : List Value) (i : ℕ) (found : List A) → IsReadTo vs i found → length vs ≤ i → Some found ≡ each kind (items_view vs)
  read_ends vs i found so_far h = sym (so_far.rest ∙ ap (λ ys. option_map (λ more. found ++ more) (each kind (items_view ys))) (drop_of_length-le vs h) ∙ ap Some (append-nil found))
