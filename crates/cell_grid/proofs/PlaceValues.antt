-- The symbol at a resource element, looked up in a channel's list.
use Rattle.std.proofs.Common.{◌≡◌, ℕ, ◌+◌, ◌-◌, ◌%◌, ◌<◌, nat_eq, ◌≤◌, ◌⊎◌, inl, inr, Bool, true, false, nat_lt, List, length, get_or, Some, None, if◌then◌else◌, refl, ap, sym, subst, ◌∙◌, arith}
use Rattle.std.proofs.lemmas.Bool.{lt-ltb, le-ltb, ltb-true, eqb-true, cases_lt}
use Rattle.std.proofs.Math.Bool.{true≢false}
use Rattle.std.proofs.lemmas.List.Sums.{position_or_len_is}
use Rattle.finite.specs.Lists.{values_below}
use Rattle.finite.proofs.Lists.{values_below_at}
use Rattle.cs_num.specs.declared.Cpx.{Cpx}
use Rattle.cs_num.specs.Complex.{nothing, negated, conjugate, value_at}
use Rattle.grid_map.specs.declared.Place.{Place}
use Rattle.grid_map.specs.Place.{place, same_place, index_in}
use Rattle.grid_map.proofs.Order.{same_place-refl, same_place-true}
use Rattle.cell_grid.specs.declared.antenna.Port.{Port}
use Rattle.lte_types.specs.Carrier.{ports_of}
use Rattle.cell_grid.specs.Ports.{crossed_point, paired_point, in_turn, sent_point}
use Rattle.cell_grid.specs.Grid.{is_one_of}
use Rattle.cell_grid.specs.Rows.{value_in}

-- a list with the first n symbols holds symbol i at index i
points_there : (n : ℕ) (f : ℕ → Cpx) (i : ℕ) → i < n → value_at (values_below n f) i ≡ f i
points_there n f i inside = values_below_at f n i nothing inside

crossed_points : (n : ℕ) (f : ℕ → Cpx) (i : ℕ) → n % 2 ≡ 0 → i < n → crossed_point (value_at (values_below n f)) i ≡ crossed_point f i
crossed_points n f i even inside = by (nat_eq (i % 2) 0) refl
  where
    by : (b : Bool) → nat_eq (i % 2) 0 ≡ b
        → (if b then negated (conjugate (value_at (values_below n f) (i + 1))) else conjugate (value_at (values_below n f) (i - 1))) ≡ (if b then negated (conjugate (f (i + 1))) else conjugate (f (i - 1)))
    by true e = ap (λ (z : Cpx). negated (conjugate z)) (points_there n f (i + 1) (let first = eqb-true (i % 2) 0 e in omega (arith, first, even, inside)))
    by false e = ap conjugate (points_there n f (i - 1) (omega (arith, inside)))

paired_points : (half number n : ℕ) (f : ℕ → Cpx) (i : ℕ) → n % 2 ≡ 0 → i < n → paired_point half number (value_at (values_below n f)) i ≡ paired_point half number f i
paired_points half number n f i even inside = by (nat_lt number half)
  where
    by : (b : Bool) → (if b then value_at (values_below n f) i else crossed_point (value_at (values_below n f)) i) ≡ (if b then f i else crossed_point f i)
    by true = points_there n f i inside
    by false = crossed_points n f i even inside

-- a choice between equal values gives equal values
alike : (b : Bool) (x y u v : Cpx) → x ≡ u → y ≡ v → (if b then x else y) ≡ (if b then u else v)
alike true x y u v e f = e
alike false x y u v e f = f

pub sent_points : (port : Port) (n : ℕ) (f : ℕ → Cpx) (i : ℕ) → n % 2 ≡ 0 → i < n → sent_point port (value_at (values_below n f)) i ≡ sent_point port f i
sent_points port n f i even inside =
    alike (nat_eq (ports_of port.carrier) 1) _ _ _ _ (points_there n f i inside)
    (alike (nat_eq (ports_of port.carrier) 2) _ _ _ _ (paired_points 1 port.number n f i even inside) (ap (in_turn port.number i) (paired_points 2 port.number n f i even inside)))

module _ (places : List Place) (p : Place) where
  fails : (q : Place) → (q ≡ p → ⊥) → (b : Bool) → same_place p q ≡ b → b ≡ false
  fails q none false e = refl
  fails q none true e = absurd (none (sym (same_place-true p q e)))

  -- `index_in` is the first index that holds p
  pub index_is : (i : ℕ) → i ≤ length places → ((j : ℕ) → j < i → get_or places j (place 0 0) ≡ p → ⊥) → (i < length places → get_or places i (place 0 0) ≡ p) → index_in places p ≡ i
  index_is i inside before here =
      position_or_len_is (same_place p) places i (place 0 0) inside
      (λ j l. fails (get_or places j (place 0 0)) (before j l) (same_place p (get_or places j (place 0 0))) refl)
      (λ l. ap (same_place p) (here l) ∙ same_place-refl p)

  -- p is not in the list
  abbrev IsAbsent : Type 0
  IsAbsent = (j : ℕ) → j < length places → get_or places j (place 0 0) ≡ p → ⊥

  pub absent_is : IsAbsent → is_one_of places p ≡ false
  absent_is none =
      let e : index_in places p ≡ length places = index_is (length places) (omega arith) none (λ l. absurd (omega (arith, l))) in
      rw e (le-ltb (length places) (length places) (omega arith))

  pub values_are : (port : Port) (n : ℕ) (f : ℕ → Cpx) → n % 2 ≡ 0 → length places ≤ n → value_in port places (values_below n f) p ≡ (if is_one_of places p then Some (sent_point port f (index_in places p)) else None)
  values_are port n f even room = by (is_one_of places p) refl
    where
      by : (b : Bool) → is_one_of places p ≡ b → (if b then Some (sent_point port (value_at (values_below n f)) (index_in places p)) else None) ≡ (if b then Some (sent_point port f (index_in places p)) else None)
      by true e = let inside = ltb-true (index_in places p) (length places) e in ap (λ (z : Cpx). Some z) (sent_points port n f (index_in places p) even (omega (arith, inside, room)))
      by false e = refl

-- ---- tables for resource elements

-- p does not occur below index i in the list
abbrev pub IsNoneBefore : List Place → Place → ℕ → Type 0
IsNoneBefore places p i = (j : ℕ) → j < i → get_or places j (place 0 0) ≡ p → ⊥

-- n is the first index below i that holds p, or the list's length if p does not occur there
abbrev pub IsFirstBefore : List Place → Place → ℕ → ℕ → Type 0
IsFirstBefore places p i n =
    ((n ≡ length places) × IsNoneBefore places p i) ⊎ ((n < i) × (get_or places n (place 0 0) ≡ p) × IsNoneBefore places p n)

-- the table entry after one more resource element
pub first_more : (places : List Place) (p : Place) (i old new : ℕ) → i < length places
    → (p ≡ get_or places i (place 0 0) → old ≡ length places → new ≡ i)
    → ((old ≡ length places → ⊥) → new ≡ old)
    → ((p ≡ get_or places i (place 0 0) → ⊥) → new ≡ old)
    → IsFirstBefore places p i old → IsFirstBefore places p (i + 1) new
first_more places p i old new inside here taken elsewhere (inr (few, at, none)) =
    let same : new ≡ old = taken (λ e. absurd (omega (arith, e, few, inside))) in
    rw same (inr (omega (arith, few), at, none))
first_more places p i old new inside here taken elsewhere (inl (all, none)) = settle (same_place p q) refl
  where
    q : Place
    q = get_or places i (place 0 0)

    settle : (b : Bool) → same_place p q ≡ b → IsFirstBefore places p (i + 1) new
    settle true e =
        let is : p ≡ q = same_place-true p q e in
        rw (here is all) (inr (omega arith, sym is, none))
    settle false e =
        let apart : p ≡ q → ⊥ = λ is. absurd (true≢false (sym (ap (same_place p) (sym is) ∙ same_place-refl p) ∙ e)) in
        rw (elsewhere apart) (inl (
          all,
          λ j l at. elim (cases_lt j i) [
            | inl below ↦ none j below at
            | inr past ↦ let last : j ≡ i = omega (arith, l, past) in apart (sym (subst (λ n. get_or places n (place 0 0) ≡ p) last at))
          ],
        ))

-- the table entry after the last resource element
pub first_of_all : (places : List Place) (p : Place) (n : ℕ) → IsFirstBefore places p (length places) n → n ≡ index_in places p
first_of_all places p n (inl (all, none)) = all ∙ sym (index_is places p (length places) (omega arith) none (λ l. absurd (omega (arith, l))))
first_of_all places p n (inr (few, at, none)) = sym (index_is places p n (omega (arith, few)) none (λ l. at))

-- the symbol read from a table
pub read_there : (port : Port) (places : List Place) (points : List Cpx) (p : Place) (n count : ℕ) → count ≡ length places → n ≡ index_in places p → n < count → Some (sent_point port (value_at points) n) ≡ value_in port places points p
read_there port places points p n count all is inside =
    let t : nat_lt (index_in places p) (length places) ≡ true = lt-ltb _ _ (omega (arith, all, is, inside)) in
    rw (t, is) refl

pub read_elsewhere : (port : Port) (places : List Place) (points : List Cpx) (p : Place) (n count : ℕ) → count ≡ length places → n ≡ index_in places p → count ≤ n → None ≡ value_in port places points p
read_elsewhere port places points p n count all is past =
    let t : nat_lt (index_in places p) (length places) ≡ false = le-ltb _ _ (omega (arith, all, is, past)) in
    rw t refl
