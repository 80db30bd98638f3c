-- Items in lists of bounded integers. Past its end, a list reads as 0.
use Rattle.std.proofs.Common.{ℕ, ◌≤◌, List, [], length, get_or, ℤ, pos, nat_abs, inl, inr, arith}
use Rattle.std.proofs.lemmas.Bool.{cases_lt}
use Rattle.std.proofs.lemmas.List.{get_or_past}
use Rattle.finite.specs.Sizes.{AllWithin, RowsWithin}

pub item-within : (n : ℕ) (zs : List ℤ) (k : ℕ) → AllWithin n zs → nat_abs (get_or zs k (pos 0)) ≤ n
item-within n zs k small = elim (cases_lt k (length zs)) [
  | inl inside ↦ small k (pos 0) inside
  | inr past ↦ rw (get_or_past zs k (pos 0) past) (omega arith)
]

pub row-within : (n : ℕ) (rows : List (List ℤ)) (k : ℕ) → RowsWithin n rows → AllWithin n (get_or rows k [])
row-within n rows k small = elim (cases_lt k (length rows)) [
  | inl inside ↦ small k [] inside
  | inr past ↦ rw (get_or_past rows k [] past) none
]
  where
    none : AllWithin n []
    none i d inside = absurd (omega (arith, inside))

pub item_of_row-within : (n : ℕ) (rows : List (List ℤ)) (k t : ℕ) → RowsWithin n rows →
    nat_abs (get_or (get_or rows k []) t (pos 0)) ≤ n
item_of_row-within n rows k t small = item-within n (get_or rows k []) t (row-within n rows k small)

-- a bound may be raised
pub All-wider : (m n : ℕ) (zs : List ℤ) → m ≤ n → AllWithin m zs → AllWithin n zs
All-wider m n zs order small k d inside = let h = small k d inside in omega (arith, h, order)
