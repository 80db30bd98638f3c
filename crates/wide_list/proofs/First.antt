-- The first item in a list that has a value.
use Rattle.std.proofs.Common.{◌≡◌, ◌⊎◌, inl, inr, ℕ, zero, suc, ◌<◌, ◌≤◌, List, [], ◌∷◌, length, get_or, arith, subst}
use Rattle.std.specs.List.{AllWithin}
use Rattle.std.proofs.lemmas.Bool.{cases_lt}
use Rattle.std.proofs.lemmas.List.{get_or_default}
use Rattle.std.proofs.lemmas.List.Elements.{at_read}
use Rattle.wide_list.specs.First.{HasNone, HaveNone, IsFirstOf}

module _ {A B : Type 0} (Has : A → B → Type 0) where
  -- if no item has a value, there is no first
  pub first_of-none : (items : List A) (value : B) → HaveNone Has items → IsFirstOf Has items value → ⊥
  first_of-none [] value none first = let no = first.inside in absurd (omega (arith, no))
  first_of-none (item ∷ items) value none first = none first.at item first.inside value (first.has item)

  -- if the items before the first had values, one of them would be the first
  before_first : (items : List A) (a b : B) (x : IsFirstOf Has items a) (y : IsFirstOf Has items b) → x.at < y.at → ⊥
  before_first [] a b x y before = let no = x.inside in absurd (omega (arith, no))
  before_first (item ∷ items) a b x y before = y.none x.at item (omega arith) before a (x.has item)

  -- if each item has at most one value, there is at most one first value
  pub one_first_of : ((item : A) (a b : B) → Has item a → Has item b → a ≡ b) → (items : List A) (a b : B) →
      IsFirstOf Has items a → IsFirstOf Has items b → a ≡ b
  one_first_of one [] a b x y = let no = x.inside in absurd (omega (arith, no))
  one_first_of one (item ∷ items) a b x y = by_order (cases_lt x.at y.at) (cases_lt y.at x.at)
    where
      by_order : (x.at < y.at) ⊎ (y.at ≤ x.at) → (y.at < x.at) ⊎ (x.at ≤ y.at) → a ≡ b
      by_order (inl before) other = absurd (before_first (item ∷ items) a b x y before)
      by_order (inr low) (inl before) = absurd (before_first (item ∷ items) b a y x before)
      by_order (inr low) (inr high) =
          let same : x.at ≡ y.at = omega (arith, low, high) in
          one (get_or (item ∷ items) y.at item) a b (subst (λ at. Has (get_or (item ∷ items) at item) a) same (x.has item)) (y.has item)

  -- an item before a list in which there is a first, or in which there is none
  first_after : (item : A) (items : List A) (value : B) → HasNone Has item → IsFirstOf Has items value → IsFirstOf Has (item ∷ items) value
  first_after item items value none first = record {
    at = suc first.at;
    inside = let inside = first.inside in omega (arith, inside);
    has = λ d. first.has d;
    none = within;
  }
    where
      within : AllWithin (HasNone Has) (item ∷ items) 0 (suc first.at)
      within zero d low high = none
      within (suc k) d low high = first.none k d (omega arith) (omega (arith, high))

  none_after : (item : A) (items : List A) → HasNone Has item → HaveNone Has items → HaveNone Has (item ∷ items)
  none_after item items none later zero d inside = none
  none_after item items none later (suc k) d inside = later k d (omega (arith, inside))

  -- if each item has a value or none, a list has a first value or none
  pub first_or_none : ((item : A) → ((value : B) × Has item value) ⊎ HasNone Has item) → (items : List A) →
      ((value : B) × IsFirstOf Has items value) ⊎ HaveNone Has items
  first_or_none decided [] = inr (λ k d inside. absurd (omega (arith, inside)))
  first_or_none decided (item ∷ items) = by (decided item) (first_or_none decided items)
    where
      by : (((value : B) × Has item value) ⊎ HasNone Has item) → (((value : B) × IsFirstOf Has items value) ⊎ HaveNone Has items) →
          ((value : B) × IsFirstOf Has (item ∷ items) value) ⊎ HaveNone Has (item ∷ items)
      by (inl found) later = inl (found.0, record { at = 0; inside = omega arith; has = λ d. found.1; none = λ k d low high. absurd (omega (arith, high)) })
      by (inr none) (inl first) = inl (first.0, first_after item items first.0 none first.1)
      by (inr none) (inr later) = inr (none_after item items none later)

-- ---- two kinds of values, which items have together: each value `c` of the second kind comes with a value `b` of the
-- first, such that `Belong b c`

module _ {A B C : Type 0} (Has : A → B → Type 0) (Also : A → C → Type 0) (Belong : B → C → Type 0)
    (back : (item : A) (c : C) → Also item c → (b : B) × Has item b × Belong b c) where
  -- items without a value of the first kind have none of the second
  pub none_also : (items : List A) (low high : ℕ) → AllWithin (HasNone Has) items low high → AllWithin (HasNone Also) items low high
  none_also items low high none k d from to c also = let found = back (get_or items k d) c also in none k d from to found.0 found.1

  pub all_none_also : (items : List A) → HaveNone Has items → HaveNone Also items
  all_none_also items none k d inside c also = let found = back (get_or items k d) c also in none k d inside found.0 found.1

  -- an item is the first with a value of the second kind, if no earlier item has one of the first kind
  pub first_here : (items : List A) (at : ℕ) (item : A) (c : C) → at < length items → item ≡ get_or items at item → AllWithin (HasNone Has) items 0 at →
      Also item c → IsFirstOf Also items c
  first_here items at item c inside is none also = record {
    at = at;
    inside = inside;
    has = at_read items (λ x. Also x c) at item inside is also;
    none = none_also items 0 at none;
  }

  -- the first value of the first kind comes with the first of the second
  pub first_also : ((item : A) (b : B) → Has item b → (c : C) × Also item c × Belong b c) → (items : List A) (b : B) → IsFirstOf Has items b →
      (c : C) × IsFirstOf Also items c × Belong b c
  first_also to [] b first = let no = first.inside in absurd (omega (arith, no))
  first_also to (x ∷ xs) b first =
      let item = get_or (x ∷ xs) first.at x in
      let found = to item b (first.has x) in
      (found.0, first_here (x ∷ xs) first.at item found.0 first.inside (get_or_default (x ∷ xs) first.at x item first.inside) first.none found.1, found.2)

  -- an item that has a value of the first kind, or none, has one of the second, or none
  pub decided_also : ((item : A) (b : B) → Has item b → (c : C) × Also item c × Belong b c) → (item : A) → ((b : B) × Has item b) ⊎ HasNone Has item →
      ((c : C) × Also item c) ⊎ HasNone Also item
  decided_also to item (inl (b, has)) = let found = to item b has in inl (found.0, found.1)
  decided_also to item (inr none) = inr (λ c also. let found = back item c also in none found.0 found.1)
