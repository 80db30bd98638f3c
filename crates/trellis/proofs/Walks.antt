-- The path that follows, in each state, the first bit on a cheapest path.
use Rattle.std.proofs.Common.{◌≡◌, ℕ, zero, suc, ◌+◌, ◌<◌, inl, inr, Bool, true, false, List, ◌∷◌, length, refl, ap, ◌∙◌, arith}
use Rattle.std.proofs.lemmas.Bool.{cases_lt, lt-ltb, le-ltb}
use Rattle.trellis.specs.Paths.{end_of, path_cost, best, best_bit, walked}
use Rattle.trellis.specs.Words.{IsFirstLeast}
use Rattle.trellis.proofs.Best.{best-le, best_reached}
use Rattle.trellis.proofs.Exists.{first_of_none, begins_with_0, begins_with_1}

pub length-walked : (next : ℕ → Bool → ℕ) (choice : ℕ → ℕ → Bool) (k n x : ℕ) → length (walked next choice k n x) ≡ n
length-walked next choice k zero x = refl
length-walked next choice k (suc n) x = ap suc (length-walked next choice (suc k) n (next x (choice k x)))

-- the cost of a path, end cost included
abbrev whole_cost : (ℕ → Bool → ℕ) → (ℕ → ℕ → Bool → ℕ) → (ℕ → ℕ) → ℕ → ℕ → List Bool → ℕ
whole_cost next c ends k x bs = path_cost next c k x bs + ends (end_of next x bs)

-- the lexicographically first of the cheapest words costs `best`
pub first_least_is_best : (next : ℕ → Bool → ℕ) (c : ℕ → ℕ → Bool → ℕ) (ends : ℕ → ℕ) (k n x : ℕ) (word : List Bool) →
    IsFirstLeast n (λ bs. path_cost next c k x bs + ends (end_of next x bs)) word →
    path_cost next c k x word + ends (end_of next x word) ≡ best next c ends k n x
first_least_is_best next c ends k n x word is =
    let low = best-le next c ends k x word in
    let e = ap (λ i. best next c ends k i x) is.size in
    let (bs, size, reached) = best_reached next c ends k n x in
    let high = is.least bs size in
    omega (arith, low, e, reached, high)

-- adding a constant to all costs keeps the first of the cheapest words
more_for_all : (n d : ℕ) (f g : List Bool → ℕ) (word : List Bool) → ((v : List Bool) → g v ≡ d + f v) → IsFirstLeast n f word → IsFirstLeast n g word
more_for_all n d f g word is known = record {
  size = known.size;
  least = λ other size. let h = known.least other size in let e = is word in let e' = is other in omega (arith, h, e, e');
  first = λ other size before. let h = known.first other size before in let e = is word in let e' = is other in omega (arith, h, e, e');
}

-- the first of the cheapest words that begin with the bit b
with_first : (next : ℕ → Bool → ℕ) (c : ℕ → ℕ → Bool → ℕ) (ends : ℕ → ℕ) (k m x : ℕ) (b : Bool) (word : List Bool) →
    IsFirstLeast m (whole_cost next c ends (suc k) (next x b)) word → IsFirstLeast m (λ v. whole_cost next c ends k x (b ∷ v)) word
with_first next c ends k m x b word known =
    more_for_all m (c k x b) (whole_cost next c ends (suc k) (next x b)) (λ v. whole_cost next c ends k x (b ∷ v)) word (λ v. omega arith) known

-- a walk that takes `best_bit` at each step is the lexicographically first of the cheapest words
pub walked_first : (next : ℕ → Bool → ℕ) (c : ℕ → ℕ → Bool → ℕ) (ends : ℕ → ℕ) (choice : ℕ → ℕ → Bool) (limit n : ℕ) →
    ((x : ℕ) (b : Bool) → x < limit → next x b < limit) →
    ((k m x : ℕ) → k + suc m ≡ n → x < limit → choice k x ≡ best_bit next c ends k m x) →
    (k m x : ℕ) → k + m ≡ n → x < limit →
    IsFirstLeast m (λ bs. path_cost next c k x bs + ends (end_of next x bs)) (walked next choice k m x)
walked_first next c ends choice limit n closed is k zero x size below = first_of_none (whole_cost next c ends k x)
walked_first next c ends choice limit n closed is k (suc m) x size below =
    let from_0 = walked_first next c ends choice limit n closed is (suc k) m (next x false) (omega (arith, size)) (closed x false below) in
    let from_1 = walked_first next c ends choice limit n closed is (suc k) m (next x true) (omega (arith, size)) (closed x true below) in
    let best_0 = first_least_is_best next c ends (suc k) m (next x false) (walked next choice (suc k) m (next x false)) from_0 in
    let best_1 = first_least_is_best next c ends (suc k) m (next x true) (walked next choice (suc k) m (next x true)) from_1 in
    let a = with_first next c ends k m x false (walked next choice (suc k) m (next x false)) from_0 in
    let b = with_first next c ends k m x true (walked next choice (suc k) m (next x true)) from_1 in
    elim (cases_lt (c k x true + best next c ends (suc k) m (next x true)) (c k x false + best next c ends (suc k) m (next x false))) [
      | inl less ↦
          let one : choice k x ≡ true = is k m x size below ∙ lt-ltb _ _ less in
          rw one
          (begins_with_1 m (whole_cost next c ends k x) (walked next choice (suc k) m (next x false)) (walked next choice (suc k) m (next x true)) a b
          (omega (arith, less, best_0, best_1)))
      | inr no_more ↦
          let other : choice k x ≡ false = is k m x size below ∙ le-ltb _ _ no_more in
          rw other
          (begins_with_0 m (whole_cost next c ends k x) (walked next choice (suc k) m (next x false)) (walked next choice (suc k) m (next x true)) a b
          (omega (arith, no_more, best_0, best_1)))
    ]
