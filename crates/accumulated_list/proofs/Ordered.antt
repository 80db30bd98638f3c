-- The listed cells, sorted, are the list: it is in order, the only one, and short.
use Rattle.std.proofs.Common.{◌≡◌, ◌⊎◌, inl, inr, ℕ, ◌+◌, ◌*◌, ◌<◌, ◌≤◌, Bool, true, false, nat_eq, List, ◌++◌, length, get_or, arith, eqb-true}
use Rattle.std.specs.Cmp.{IsEquivalence}
use Rattle.std.specs.List.{All, AllPairs, Contains, IsDistinct}
use Rattle.std.specs.List.Sorted.{IsPermutation, IsNonDecreasingBy}
use Rattle.std.specs.Set.{is_member}
use Rattle.std.proofs.lemmas.Bool.{cases_lt, false_from_ne_true}
use Rattle.std.proofs.lemmas.Bool.Decides.{nat_tests}
use Rattle.std.proofs.lemmas.List.Elements.{All-get_or, Contains-append_cases}
use Rattle.std.proofs.lemmas.List.Folds.{Any-from_list_any, list_any-from_Any}
use Rattle.std.proofs.lemmas.List.Sorted.{IsPermutation-sym, Contains-permutation, length_permutation}
use Rattle.std.proofs.lemmas.Map.Keys.{IsDistinct-from_apart, IsDistinct-IsPermutation, apart_from_distinct}
use Rattle.std.proofs.lemmas.Map.Made.{length-le_from_is_member}
use Rattle.finite.proofs.Lists.{AllPairs-append}
use Rattle.explain.proofs.Sorted.{one_in_order}
use Rattle.cs_num.specs.declared.Sample.{Sample}
use Rattle.accumulated_list.specs.declared.cell.DetectedCell.{DetectedCell}
use Rattle.accumulated_list.specs.Cells.{IsBefore, IsListed, IsList}
use Rattle.accumulated_list.specs.Laws.{OnlyOneList, ListIsShort}
use Rattle.accumulated_list.specs.Steps.{listed_cells, all_listed, order_of}
use Rattle.accumulated_list.proofs.Gathered.{All-from_Contains}
use Rattle.accumulated_list.proofs.Found.{Differ}
use Rattle.accumulated_list.proofs.EchoTest.{listed_from, listed_differ, all_has, all_from, all_few}

-- ---- the order by a number

abbrev HasSignal : DetectedCell → Type 0
HasSignal cell = cell.n2 ≤ 2

before_by : (a b : DetectedCell) → HasSignal a → HasSignal b → order_of a < order_of b → IsBefore a b
before_by a b p q l = by a.position a.n2 b.position b.n2 p q l
  where
    by : (t m u n : ℕ) → m ≤ 2 → n ≤ 2 → 3 * t + m < 3 * u + n → (t < u) ⊎ ((t ≡ u) × (m < n))
    by t m u n low high lt = elim (cases_lt t u) [
      | inl less ↦ inl less
      | inr past ↦ inr (omega (arith, low, high, lt, past), omega (arith, low, high, lt, past))
    ]

order_by : (a b : DetectedCell) → HasSignal a → HasSignal b → IsBefore a b → order_of a < order_of b
order_by a b p q before = by a.position a.n2 b.position b.n2 p q before
  where
    by : (t m u n : ℕ) → m ≤ 2 → n ≤ 2 → (t < u) ⊎ ((t ≡ u) × (m < n)) → 3 * t + m < 3 * u + n
    by t m u n low high (inl less) = omega (arith, low, high, less)
    by t m u n low high (inr (same, less)) = omega (arith, same, less)

strict : (a b : DetectedCell) → IsBefore a b → IsBefore b a → ⊥
strict a b p q = by a.position a.n2 b.position b.n2 p q
  where
    by : (t m u n : ℕ) → (t < u) ⊎ ((t ≡ u) × (m < n)) → (u < t) ⊎ ((u ≡ t) × (n < m)) → ⊥
    by t m u n (inl a) (inl b) = omega (arith, a, b)
    by t m u n (inl a) (inr (b, c)) = omega (arith, a, b)
    by t m u n (inr (a, c)) (inl b) = omega (arith, a, b)
    by t m u n (inr (a, c)) (inr (b, d)) = omega (arith, c, d)

pub only_one_list : OnlyOneList
only_one_list recording halves first second a b =
    one_in_order IsBefore strict first second a.order b.order
    (λ cell there. (b.listed cell).1 ((a.listed cell).0 there)) (λ cell there. (a.listed cell).1 ((b.listed cell).0 there))

-- ---- one number, one cell

-- whether two cells have one number in the order
abbrev same : DetectedCell → DetectedCell → Bool
same a b = nat_eq (order_of a) (order_of b)

same_flips : (a b : DetectedCell) → same a b ≡ same b a
same_flips a b = by (order_of a) (order_of b)
  where
    by : (m n : ℕ) → nat_eq m n ≡ nat_eq n m
    by m n = grind (arith, nat_tests)

same_laws : IsEquivalence same
same_laws = record { refl = λ a. itself (order_of a); symm = same_flips; congr = λ a b c e. on (order_of a) (order_of b) (order_of c) e }
  where
    itself : (m : ℕ) → nat_eq m m ≡ true
    itself m = grind (arith, nat_tests)

    on : (m n k : ℕ) → nat_eq m n ≡ true → nat_eq m k ≡ nat_eq n k
    on m n k e = grind (arith, nat_tests)

module _ (recording : List Sample) (halves : ℕ) where
  abbrev listed : ℕ → List DetectedCell
  listed n2 = listed_cells recording halves n2

  abbrev all : List DetectedCell
  all = all_listed recording halves

  signals_differ : (m n : ℕ) → m ≤ 2 → n ≤ 2 → m < n → (a b : DetectedCell) → Contains (listed m) a → Contains (listed n) b → Differ a b
  signals_differ m n low high l a b p q e =
      by a.position a.n2 b.position b.n2 (listed_from recording halves m low a p).1 (listed_from recording halves n high b q).1 e
    where
      by : (t i u j : ℕ) → i ≡ m → j ≡ n → 3 * t + i ≡ 3 * u + j → ⊥
      by t i u j first second equal = omega (arith, low, high, l, first, second, equal)

  all_differ : AllPairs Differ all
  all_differ =
      AllPairs-append Differ (listed 0) (listed 1 ++ listed 2) (listed_differ recording halves 0)
      (AllPairs-append Differ (listed 1) (listed 2) (listed_differ recording halves 1) (listed_differ recording halves 2)
      (signals_differ 1 2 (omega arith) (omega arith) (omega arith)))
      (λ a b p q. elim (Contains-append_cases (listed 1) (listed 2) b q) [
        | inl second ↦ signals_differ 0 1 (omega arith) (omega arith) (omega arith) a b p second
        | inr third ↦ signals_differ 0 2 (omega arith) (omega arith) (omega arith) a b p third
      ])

  not_same : (a b : DetectedCell) → Differ a b → same a b ≡ false
  not_same a b differ = false_from_ne_true (same a b) (λ e. differ (eqb-true (order_of a) (order_of b) e))

  all_distinct : IsDistinct same all
  all_distinct = IsDistinct-from_apart same all (λ i j d below inside. not_same (get_or all i d) (get_or all j d) (all_differ i j d below inside))

  have_signals : (cells : List DetectedCell) → ((cell : DetectedCell) → Contains cells cell → IsListed recording halves cell) → All HasSignal cells
  have_signals cells are = All-from_Contains HasSignal cells (λ cell there. (are cell there).detected.member)

  -- ---- the sorted list

  pub list_from_sort : (cells : List DetectedCell) → IsPermutation all cells → IsNonDecreasingBy order_of cells → IsList recording halves cells
  list_from_sort cells moved sorted = record {
    listed = λ cell. (are cell, λ is. Contains-permutation all cells cell moved (all_has recording halves cell is));
    order = in_order;
  }
    where
      are : (cell : DetectedCell) → Contains cells cell → IsListed recording halves cell
      are cell there = all_from recording halves cell (Contains-permutation cells all cell (IsPermutation-sym all cells moved) there)

      distinct : IsDistinct same cells
      distinct = IsDistinct-IsPermutation same same_flips all cells moved all_distinct

      less : (a b : DetectedCell) → order_of a ≤ order_of b → same a b ≡ false → order_of a < order_of b
      less a b le other = by (order_of a) (order_of b) le other
        where
          by : (m n : ℕ) → m ≤ n → nat_eq m n ≡ false → m < n
          by m n le other = grind (arith, nat_tests)

      in_order : AllPairs IsBefore cells
      in_order i j d below inside =
          before_by (get_or cells i d) (get_or cells j d)
          (All-get_or HasSignal cells i d (omega (arith, below, inside)) (have_signals cells are))
          (All-get_or HasSignal cells j d inside (have_signals cells are))
          (less (get_or cells i d) (get_or cells j d) (sorted i j d (omega (arith, below)) inside)
          (apart_from_distinct same cells i j d distinct below inside))

  pub sorted_few : (cells : List DetectedCell) → IsPermutation all cells → length cells ≤ 192
  sorted_few cells moved =
      let is = length_permutation all cells moved in
      let few = all_few recording halves in
      omega (arith, is, few)

  -- ---- each list is short

  short : (cells : List DetectedCell) → IsList recording halves cells → length cells ≤ 192
  short cells list =
      let fewer = length-le_from_is_member same_laws cells all distinct member in
      let few = all_few recording halves in
      omega (arith, fewer, few)
    where
      are : (cell : DetectedCell) → Contains cells cell → IsListed recording halves cell
      are cell there = (list.listed cell).0 there

      distinct : IsDistinct same cells
      distinct = IsDistinct-from_apart same cells (λ i j d below inside.
          let lt = order_by (get_or cells i d) (get_or cells j d)
          (All-get_or HasSignal cells i d (omega (arith, below, inside)) (have_signals cells are))
          (All-get_or HasSignal cells j d inside (have_signals cells are)) (list.order i j d below inside) in
          not_same (get_or cells i d) (get_or cells j d) (λ e. omega (arith, lt, e)))

      member : (cell : DetectedCell) → is_member same cells cell ≡ true → is_member same all cell ≡ true
      member cell e =
          let (k, other, l, at, equal) = Any-from_list_any (same cell) cells e in
          let (m, inside, is) = all_has recording halves other (are other (k, l, at)) in
          list_any-from_Any (same cell) all (m, other, inside, is, equal)

pub list_is_short : ListIsShort
list_is_short recording halves cells list = short recording halves cells list
