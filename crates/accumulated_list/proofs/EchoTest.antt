-- The test for an echo agrees with its definition, and the listed cells of the three primary signals are all listed cells.
use Rattle.std.proofs.Common.{◌≡◌, ◌∙◌, inl, inr, ℕ, zero, suc, ◌+◌, ◌*◌, ◌≤◌, Bool, true, false, not, nat_le, nat_eq, List, ◌++◌, length, length-append, arith, refl, ap, sym, subst, eqb-true}
use Rattle.std.specs.List.{AllPairs, Contains, list_any}
use Rattle.std.proofs.lemmas.Bool.{and_parts, and_from, false≢true, leb-true, le-leb}
use Rattle.std.proofs.lemmas.Bool.Decides.{nat_tests}
use Rattle.std.proofs.lemmas.List.Elements.{Contains-append_left, Contains-append_right, Contains-append_cases}
use Rattle.std.proofs.lemmas.List.Folds.{Any-from_list_any, list_any-from_Any}
use Rattle.std.proofs.lemmas.List.Kept.{AllPairs-filter}
use Rattle.std.proofs.lemmas.List.Sums.{length-filter, count_by-le-length}
use Rattle.cs_num.specs.declared.Sample.{Sample}
use Rattle.accumulated_pss.specs.Sums.{row_of}
use Rattle.accumulated_pss.specs.Maxima.{distance}
use Rattle.accumulated_pss.proofs.Kept.{filter-passes, filter-inside, filter-keeps}
use Rattle.accumulated_list.specs.declared.cell.DetectedCell.{DetectedCell}
use Rattle.accumulated_list.specs.Cells.{IsDetected, IsEcho, IsListed}
use Rattle.accumulated_list.specs.Steps.{detected_cells, is_echo, is_no_echo, without_echoes, listed_cells, all_listed}
use Rattle.accumulated_list.proofs.Found.{detected_from, detected_has, detected_differ, detected_few, Differ}

eq_test : (a b : ℕ) → a ≡ b → nat_eq a b ≡ true
eq_test a b e = grind (arith, nat_tests)

module _ (recording : List Sample) (halves : ℕ) where
  to_echo : (other cell : DetectedCell) → is_echo (row_of recording halves cell.n2) other cell ≡ true → IsEcho recording halves other cell
  unfolding is_echo
  to_echo other cell e =
      let (same, rest) = and_parts (nat_eq other.id cell.id) _ e in
      let (near, first) = and_parts (nat_le (distance other.position cell.position) 137) _ rest in
      record { identity = eqb-true other.id cell.id same; near = leb-true (distance other.position cell.position) 137 near; precedes = first }

  from_echo : (other cell : DetectedCell) → IsEcho recording halves other cell → is_echo (row_of recording halves cell.n2) other cell ≡ true
  unfolding is_echo
  from_echo other cell echo =
      and_from (nat_eq other.id cell.id) _ (eq_test other.id cell.id echo.identity)
      (and_from (nat_le (distance other.position cell.position) 137) _ (le-leb (distance other.position cell.position) 137 echo.near) echo.precedes)

  -- cells with one identity have one primary signal
  pub same_signal : (a b : DetectedCell) → IsDetected recording halves a → IsDetected recording halves b → a.id ≡ b.id → a.n2 ≡ b.n2
  same_signal a b p q e = by a.id b.id a.n2 b.n2 p.found.n1 q.found.n1 p.member q.member (ap (λ c. c.id) p.fields) (ap (λ c. c.id) q.fields) e
    where
      by : (i j m n k l : ℕ) → m ≤ 2 → n ≤ 2 → i ≡ 3 * k + m → j ≡ 3 * l + n → i ≡ j → m ≡ n
      by i j m n k l low high first second same = omega (arith, low, high, first, second, same)

  -- ---- the listed cells of one primary signal

  abbrev cells : ℕ → List DetectedCell
  cells n2 = detected_cells recording halves n2

  abbrev test : ℕ → DetectedCell → Bool
  test n2 = is_no_echo (row_of recording halves n2) (cells n2)

  listed_inside : (n2 : ℕ) (cell : DetectedCell) → Contains (listed_cells recording halves n2) cell → Contains (cells n2) cell
  unfolding without_echoes
  listed_inside n2 cell inside = filter-inside (test n2) (cells n2) cell inside

  none_echoes : (cell other : DetectedCell) → test cell.n2 cell ≡ true → Contains (cells cell.n2) other → IsEcho recording halves other cell → ⊥
  unfolding is_no_echo
  none_echoes cell other passes (k, l, at) echo =
      let row = row_of recording halves cell.n2 in
      let some : list_any (λ o. is_echo row o cell) (cells cell.n2) ≡ true =
      list_any-from_Any (λ o. is_echo row o cell) (cells cell.n2) (k, other, l, at, from_echo other cell echo) in
      false≢true (sym (ap not some) ∙ passes)

  listed_here : (cell : DetectedCell) → Contains (listed_cells recording halves cell.n2) cell → IsDetected recording halves cell → IsListed recording halves cell
  unfolding without_echoes
  listed_here cell inside is = record {
    detected = is;
    no_echo = λ other other_is echo.
        let same = same_signal other cell other_is is echo.identity in
        let there = subst (λ n. Contains (cells n) other) same (detected_has recording halves other other_is) in
        none_echoes cell other (filter-passes (test cell.n2) (cells cell.n2) cell inside) there echo;
  }

  pub listed_from : (n2 : ℕ) → n2 ≤ 2 → (cell : DetectedCell) → Contains (listed_cells recording halves n2) cell →
      IsListed recording halves cell × (cell.n2 ≡ n2)
  listed_from n2 member cell inside =
      let (is, same) = detected_from recording halves n2 member cell (listed_inside n2 cell inside) in
      (listed_here cell (subst (λ n. Contains (listed_cells recording halves n) cell) (sym same) inside) is, same)

  passes : (cell : DetectedCell) → IsListed recording halves cell → test cell.n2 cell ≡ true
  unfolding is_no_echo
  passes cell is = by (list_any (λ o. is_echo row o cell) (cells cell.n2)) refl
    where
      row : List ℕ
      row = row_of recording halves cell.n2

      by : (b : Bool) → list_any (λ o. is_echo row o cell) (cells cell.n2) ≡ b → not b ≡ true
      by false e = refl
      by true e =
          let (k, other, l, at, echo) = Any-from_list_any (λ o. is_echo row o cell) (cells cell.n2) e in
          let other_is = (detected_from recording halves cell.n2 is.detected.member other (k, l, at)).0 in
          absurd (is.no_echo other other_is (to_echo other cell echo))

  listed_has : (cell : DetectedCell) → IsListed recording halves cell → Contains (listed_cells recording halves cell.n2) cell
  unfolding without_echoes
  listed_has cell is = filter-keeps (test cell.n2) (cells cell.n2) cell (detected_has recording halves cell is.detected) (passes cell is)

  listed_few : (n2 : ℕ) → length (listed_cells recording halves n2) ≤ 64
  unfolding without_echoes
  listed_few n2 =
      let is = length-filter (test n2) (cells n2) in
      let fewer = count_by-le-length (test n2) (cells n2) in
      let few = detected_few recording halves n2 in
      omega (arith, is, fewer, few)

  pub listed_differ : (n2 : ℕ) → AllPairs Differ (listed_cells recording halves n2)
  unfolding without_echoes
  listed_differ n2 = AllPairs-filter Differ (test n2) (cells n2) (detected_differ recording halves n2)

  -- ---- all three primary signals

  abbrev listed : ℕ → List DetectedCell
  listed n2 = listed_cells recording halves n2

  pub all_has : (cell : DetectedCell) → IsListed recording halves cell → Contains (all_listed recording halves) cell
  all_has cell is = in_all cell.n2 is.detected.member (listed_has cell is)
    where
      in_all : (n : ℕ) → n ≤ 2 → Contains (listed n) cell → Contains (all_listed recording halves) cell
      in_all zero l there = Contains-append_left (listed 0) (listed 1 ++ listed 2) cell there
      in_all (suc zero) l there =
          Contains-append_right (listed 0) (listed 1 ++ listed 2) cell (Contains-append_left (listed 1) (listed 2) cell there)
      in_all (suc (suc zero)) l there =
          Contains-append_right (listed 0) (listed 1 ++ listed 2) cell (Contains-append_right (listed 1) (listed 2) cell there)
      in_all (suc (suc (suc n))) l there = absurd (omega (arith, l))

  pub all_from : (cell : DetectedCell) → Contains (all_listed recording halves) cell → IsListed recording halves cell
  all_from cell inside = elim (Contains-append_cases (listed 0) (listed 1 ++ listed 2) cell inside) [
    | inl first ↦ (listed_from 0 (omega arith) cell first).0
    | inr others ↦ elim (Contains-append_cases (listed 1) (listed 2) cell others) [
      | inl second ↦ (listed_from 1 (omega arith) cell second).0
      | inr third ↦ (listed_from 2 (omega arith) cell third).0
    ]
  ]

  pub all_few : length (all_listed recording halves) ≤ 192
  all_few =
      let a = listed_few 0 in
      let b = listed_few 1 in
      let c = listed_few 2 in
      let first = length-append (listed 0) (listed 1 ++ listed 2) in
      let second = length-append (listed 1) (listed 2) in
      omega (arith, a, b, c, first, second)
