-- A slice written in pieces.
use Rattle.std.proofs.Common.{ℕ, ◌+◌, ◌-◌, ◌<◌, ◌≤◌, ◌≡◌, inl, inr, Bool, false, List, length, get_or, ap, ◌∙◌, arith, rules}
use Rattle.std.proofs.lemmas.Bool.{cases_lt}
use Rattle.std.proofs.lemmas.List.{places}
use borrow.Rule.Slice.PartMut.{put_mid}

-- k more elements, written after the first a
pub piece_more : (f : ℕ → Bool) (a k : ℕ) (xs ys : List Bool) → a + k ≤ length xs → length ys ≡ k →
    ((i : ℕ) → i < a → i < length xs → get_or xs i false ≡ f i) → ((j : ℕ) → j < k → get_or ys j false ≡ f (a + j)) →
    (i : ℕ) → i < a + k → get_or (put_mid a k xs ys) i false ≡ f i
piece_more f a k xs ys inside size before piece i here = elim (cases_lt i a) [
  | inl low ↦
      let e : get_or (put_mid a k xs ys) i false ≡ get_or xs i false = search (rules, places) in
      e ∙ before i low (omega (arith, low, inside))
  | inr high ↦
      let e : get_or (put_mid a k xs ys) i false ≡ get_or ys (i - a) false = search (rules, places) in
      e ∙ piece (i - a) (omega (arith, high, here)) ∙ ap f (omega (arith, high))
]
