-- How often an item occurs in a list, and the index of an item that occurs once.
use Rattle.std.proofs.Common.{◌≡◌, ℕ, zero, suc, ◌+◌, ◌<◌, ◌≤◌, Bool, true, false, inl, inr, List, [], ◌∷◌, length, get_or, cond, refl, ap, ap₂, sym, subst, ◌∙◌, arith}
use Rattle.std.specs.Prelude.{nat_eq, nat_le, nat_lt, ◌&&◌}
use Rattle.std.specs.List.{count_by}
use Rattle.std.proofs.lemmas.Bool.{cases_Bool, cases_lt}
use Rattle.std.proofs.lemmas.Bool.Decides.{eqb_tells, nat_tests}
use Rattle.std.proofs.lemmas.List.Sums.{sum_by-append, sum_by-cons}
use Rattle.finite.specs.Lists.{values_below}
use Rattle.finite.proofs.Lists.{values_below_more}
use Rattle.sub_block.specs.declared.Item.{Item}
use Rattle.sub_block.specs.Items.{item, is_at}
use Rattle.sub_block.proofs.Sums.{at_itself}

-- ---- tests of numbers

pub same_test : (a b c d : ℕ) → (a ≡ b → c ≡ d) → (c ≡ d → a ≡ b) → nat_eq a b ≡ nat_eq c d
same_test a b c d f g = elim (eqb_tells a b) [
  | inl (x, e) ↦ elim (eqb_tells c d) [
    | inl (y, e') ↦ x ∙ sym y
    | inr (y, ne) ↦ absurd (ne (f e))
  ]
  | inr (x, ne) ↦ elim (eqb_tells c d) [
    | inl (y, e') ↦ absurd (ne (g e'))
    | inr (y, ne') ↦ x ∙ sym y
  ]
]

pub different : (a b : ℕ) → (a ≡ b → ⊥) → nat_eq a b ≡ false
different a b apart = elim (eqb_tells a b) [
  | inl (x, e) ↦ absurd (apart e)
  | inr (x, ne) ↦ x
]

pub same_number : (a : ℕ) → nat_eq a a ≡ true
same_number a = elim (eqb_tells a a) [
  | inl (x, e) ↦ x
  | inr (x, ne) ↦ absurd (ne refl)
]

-- ---- some item passes

pub counted_some : (test : Item → Bool) (xs : List Item) (d : Item) → 1 ≤ count_by test xs → (i : ℕ) × (i < length xs) × (test (get_or xs i d) ≡ true)
counted_some test [] d h = absurd (omega (arith, h))
counted_some test (x ∷ xs) d h = elim (cases_Bool (test x)) [
  | inl e ↦ (0, omega arith, e)
  | inr e ↦
      let total = sum_by-cons (λ x. cond (test x) 1 0) x xs ∙ ap (λ b. cond b 1 0 + count_by test xs) e in
      let rest : 1 ≤ count_by test xs = let known = subst (λ n. 1 ≤ n) total h in omega (arith, known) in
      let (i, below, is) = counted_some test xs d rest in (suc i, omega (arith, below), is)
]

-- ---- two passing items are counted twice

counted_one : (test : Item → Bool) (xs : List Item) (d : Item) (i : ℕ) → i < length xs → test (get_or xs i d) ≡ true → 1 ≤ count_by test xs
counted_one test [] d i inside is = absurd (omega (arith, inside))
counted_one test (x ∷ xs) d zero inside is =
    let total = sum_by-cons (λ x. cond (test x) 1 0) x xs ∙ ap (λ b. cond b 1 0 + count_by test xs) is in
    omega (arith, total)
counted_one test (x ∷ xs) d (suc i) inside is =
    let rest = counted_one test xs d i (omega (arith, inside)) is in
    let total = sum_by-cons (λ x. cond (test x) 1 0) x xs in
    omega (arith, rest, total)

counted_two : (test : Item → Bool) (xs : List Item) (d : Item) (i j : ℕ) → i < j → j < length xs →
    test (get_or xs i d) ≡ true → test (get_or xs j d) ≡ true → 2 ≤ count_by test xs
counted_two test [] d i j order inside is also = absurd (omega (arith, inside))
counted_two test (x ∷ xs) d i zero order inside is also = absurd (omega (arith, order))
counted_two test (x ∷ xs) d zero (suc j) order inside is also =
    let total = sum_by-cons (λ x. cond (test x) 1 0) x xs ∙ ap (λ b. cond b 1 0 + count_by test xs) is in
    let rest = counted_one test xs d j (omega (arith, inside)) also in
    omega (arith, total, rest)
counted_two test (x ∷ xs) d (suc i) (suc j) order inside is also =
    let rest = counted_two test xs d i j (omega (arith, order)) (omega (arith, inside)) is also in
    let total = sum_by-cons (λ x. cond (test x) 1 0) x xs in
    omega (arith, rest, total)

apart : (xs : List Item) (d : Item) (i j : ℕ) → i < j → j < length xs → get_or xs i d ≡ get_or xs j d →
    count_by (is_at (get_or xs i d).stream (get_or xs i d).index) xs ≡ 1 → ⊥
apart xs d i j order inside same once =
    let here = get_or xs i d in
    let two = counted_two (is_at here.stream here.index) xs d i j order inside (at_itself here) (subst (λ p. is_at here.stream here.index p ≡ true) same (at_itself here)) in
    omega (arith, two, once)

-- if each item is counted once, equal items have equal indices
pub one_index : (xs : List Item) (d : Item) (i j : ℕ) → i < length xs → j < length xs →
    ((m : ℕ) → m < length xs → count_by (is_at (get_or xs m d).stream (get_or xs m d).index) xs ≡ 1) → get_or xs i d ≡ get_or xs j d → i ≡ j
one_index xs d i j hi hj once same = elim (cases_lt i j) [
  | inl below ↦ absurd (apart xs d i j below hj same (once i hi))
  | inr past ↦ elim (cases_lt j i) [
    | inl above ↦ absurd (apart xs d j i above hi (sym same) (once j hj))
    | inr equal ↦ omega (arith, past, equal)
  ]
]

-- ---- items of one stream

count_more : (test : Item → Bool) (n : ℕ) (f : ℕ → Item) → count_by test (values_below (suc n) f) ≡ count_by test (values_below n f) + cond (test (f n)) 1 0
count_more test n f =
    let e : suc n ≡ n + 1 = omega arith in
    let one : cond {A = ℕ} (test (f n)) 1 0 + 0 ≡ cond (test (f n)) 1 0 = omega arith in
    ap (λ k. count_by test (values_below k f)) e ∙ ap (count_by test) (values_below_more n f)
    ∙ sum_by-append (λ x. cond (test x) 1 0) (values_below n f) (f n ∷ [])
    ∙ ap (λ z. count_by test (values_below n f) + z) (sum_by-cons (λ x. cond (test x) 1 0) (f n) [] ∙ one)

pub count_other : (n s t c : ℕ) (f : ℕ → ℕ) → nat_eq s t ≡ false → count_by (is_at t c) (values_below n (λ m. item s (f m))) ≡ 0
count_other zero s t c f e = refl
count_other (suc n) s t c f e =
    let before = count_other n s t c f e in
    let none : cond {A = ℕ} (is_at t c (item s (f n))) 1 0 ≡ 0 = ap (λ b. cond (b && nat_eq (f n) c) 1 0) e in
    count_more (is_at t c) n (λ m. item s (f m)) ∙ ap₂ (λ (x y : ℕ). x + y) before none

-- exactly one number below n, m0, is mapped to c
count_first : (n t c m0 : ℕ) (f : ℕ → ℕ) → ((m : ℕ) → m < n → nat_eq (f m) c ≡ nat_eq m m0) → (k : ℕ) → k ≤ n →
    count_by (is_at t c) (values_below k (λ m. item t (f m))) ≡ cond (nat_lt m0 k) 1 0
count_first n t c m0 f same zero h = let e : nat_lt m0 0 ≡ false = grind arith in rw e refl
count_first n t c m0 f same (suc k) h =
    let before = count_first n t c m0 f same k (omega (arith, h)) in
    let here : cond {A = ℕ} (is_at t c (item t (f k))) 1 0 ≡ cond (nat_eq k m0) 1 0
    = ap₂ (λ a b. cond (a && b) 1 0) (same_number t) (same k (omega (arith, h))) in
    count_more (is_at t c) k (λ m. item t (f m)) ∙ ap₂ (λ (x y : ℕ). x + y) before here ∙ next m0 k
  where
    next : (m0 k : ℕ) → cond (nat_lt m0 k) 1 0 + cond (nat_eq k m0) 1 0 ≡ cond (nat_lt m0 (suc k)) 1 0
    next m0 k = grind (arith, nat_tests)

-- f permutes the numbers below n, and g is its inverse
pub record IsInverse (n : ℕ) (f g : ℕ → ℕ) : Type 0 where
  pub back : (m : ℕ) → m < n → g (f m) ≡ m
  pub forth : (c : ℕ) → c < n → f (g c) ≡ c
  pub inside : (c : ℕ) → c < n → g c < n

pub count_this : (n t c : ℕ) (f g : ℕ → ℕ) → IsInverse n f g → c < n → count_by (is_at t c) (values_below n (λ m. item t (f m))) ≡ 1
count_this n t c f g inverse h =
    let same : (m : ℕ) → m < n → nat_eq (f m) c ≡ nat_eq m (g c)
    = λ m l. same_test (f m) c m (g c) (λ e. sym (inverse.back m l) ∙ ap g e) (λ e. ap f e ∙ inverse.forth c h) in
    let below = inverse.inside c h in
    let e : nat_lt (g c) n ≡ true = grind arith in
    count_first n t c (g c) f same n (omega arith) ∙ rw e refl

-- ---- indices from s upwards

abbrev from : ℕ → Item → Bool
from s here = nat_le s here.index

-- all indices are at least 0
from_first : (t : ℕ) (f : ℕ → ℕ) (k : ℕ) → count_by (from 0) (values_below k (λ m. item t (f m))) ≡ k
from_first t f zero = refl
from_first t f (suc k) =
    let one : cond {A = ℕ} (nat_le 0 (f k)) 1 0 ≡ 1 = grind (arith, nat_tests) in
    count_more (from 0) k (λ m. item t (f m)) ∙ ap₂ (λ (x y : ℕ). x + y) (from_first t f k) one ∙ omega arith

from_next : (t s : ℕ) (f : ℕ → ℕ) (k : ℕ) →
    count_by (from s) (values_below k (λ m. item t (f m)))
    ≡ count_by (from (suc s)) (values_below k (λ m. item t (f m))) + count_by (is_at t s) (values_below k (λ m. item t (f m)))
from_next t s f zero = refl
from_next t s f (suc k) =
    let before = from_next t s f k in
    let itself : cond {A = ℕ} (is_at t s (item t (f k))) 1 0 ≡ cond (nat_eq (f k) s) 1 0 = ap (λ b. cond (b && nat_eq (f k) s) 1 0) (same_number t) in
    let here = this s (f k) in
    let a = count_more (from s) k (λ m. item t (f m)) in
    let b = count_more (from (suc s)) k (λ m. item t (f m)) in
    let c = count_more (is_at t s) k (λ m. item t (f m)) in
    omega (arith, before, itself, here, a, b, c)
  where
    this : (s x : ℕ) → cond {A = ℕ} (nat_le s x) 1 0 ≡ cond {A = ℕ} (nat_le (suc s) x) 1 0 + cond {A = ℕ} (nat_eq x s) 1 0
    this s x = grind (arith, nat_tests)

pub count_from : (n t : ℕ) (f g : ℕ → ℕ) → IsInverse n f g → (s : ℕ) → s ≤ n → count_by (from s) (values_below n (λ m. item t (f m))) + s ≡ n
count_from n t f g inverse zero h = let all = from_first t f n in omega (arith, all)
count_from n t f g inverse (suc s) h =
    let before = count_from n t f g inverse s (omega (arith, h)) in
    let next = from_next t s f n in
    let once = count_this n t s f g inverse (omega (arith, h)) in
    omega (arith, before, next, once)
