-- Filtered lists: what they contain, and how long they are.
use Rattle.std.proofs.Common.{◌≡◌, ◌⊎◌, inl, inr, ℕ, suc, ◌+◌, ◌<◌, ◌≤◌, Bool, true, false, cond, List, [], ◌∷◌, filter, length, nat_lt, nat_eq, arith, refl, ap, sym, subst, ◌∙◌}
use Rattle.std.specs.List.{AllPairs, Contains}
use Rattle.std.proofs.lemmas.Bool.{false≢true, false_from_ne_true, ltb-true}
use Rattle.std.proofs.lemmas.List.Elements.{All-contains, All-contains_itself, All-filter, filter_passes, Contains-append_cases, Contains-append_right}
use Rattle.std.proofs.lemmas.Bool.Decides.{nat_tests}
use Rattle.finite.proofs.Lists.{only_one}

module _ {A : Type 0} where
  Contains-first : (x : A) (xs : List A) → Contains (x ∷ xs) x
  Contains-first x xs = (0, omega arith, refl)

  Contains-after : (y : A) (ys : List A) (x : A) → Contains ys x → Contains (y ∷ ys) x
  Contains-after y ys x h = Contains-append_right (y ∷ []) ys x h

  first_or_after : (y : A) (ys : List A) (x : A) → Contains (y ∷ ys) x → (y ≡ x) ⊎ Contains ys x
  first_or_after y ys x h = elim (Contains-append_cases (y ∷ []) ys x h) [
    | inl one ↦ inl (only_one y x one)
    | inr rest ↦ inr rest
  ]

  -- ---- what a filter contains

  pub filter-passes : (p : A → Bool) (xs : List A) (x : A) → Contains (filter p xs) x → p x ≡ true
  filter-passes p xs x h = All-contains (λ y. p y ≡ true) (filter p xs) x (filter_passes p xs) h

  pub filter-inside : (p : A → Bool) (xs : List A) (x : A) → Contains (filter p xs) x → Contains xs x
  filter-inside p xs x h = All-contains (Contains xs) (filter p xs) x (All-filter p (Contains xs) xs (All-contains_itself xs)) h

  pub filter-keeps : (p : A → Bool) (xs : List A) (x : A) → Contains xs x → p x ≡ true → Contains (filter p xs) x
  filter-keeps p [] x (i, l, e) passes = absurd (omega (arith, l))
  filter-keeps p (y ∷ ys) x h passes = by (p y) refl (first_or_after y ys x h) (λ later. filter-keeps p ys x later passes)
    where
      by : (b : Bool) → p y ≡ b → (y ≡ x) ⊎ Contains ys x → (Contains ys x → Contains (filter p ys) x) → Contains (cond b (y ∷ filter p ys) (filter p ys)) x
      by true e (inl is) rest = subst (Contains (y ∷ filter p ys)) is (Contains-first y (filter p ys))
      by true e (inr later) rest = Contains-after y (filter p ys) x (rest later)
      by false e (inl is) rest = absurd (false≢true (sym e ∙ ap p is ∙ passes))
      by false e (inr later) rest = rest later

  -- ---- how long a filter is

  pub filter-fewer : (p q : A → Bool) (xs : List A) → ((x : A) → Contains xs x → p x ≡ true → q x ≡ true) → length (filter p xs) ≤ length (filter q xs)
  filter-fewer p q [] h = omega arith
  filter-fewer p q (y ∷ ys) h =
      by (p y) (q y) (h y (Contains-first y ys)) (filter-fewer p q ys (λ x inside. h x (Contains-after y ys x inside)))
    where
      by : (a b : Bool) → (a ≡ true → b ≡ true) → length (filter p ys) ≤ length (filter q ys) →
          length (cond a (y ∷ filter p ys) (filter p ys)) ≤ length (cond b (y ∷ filter q ys) (filter q ys))
      by true true k l = omega (arith, l)
      by true false k l = absurd (false≢true (k refl))
      by false true k l = omega (arith, l)
      by false false k l = l

  -- fewer pass a test that fails where another passes
  pub filter-strictly_fewer : (p q : A → Bool) (xs : List A) (x : A) → ((y : A) → Contains xs y → p y ≡ true → q y ≡ true) →
      Contains xs x → p x ≡ false → q x ≡ true → length (filter p xs) < length (filter q xs)
  filter-strictly_fewer p q [] x h (i, l, e) fails passes = absurd (omega (arith, l))
  filter-strictly_fewer p q (y ∷ ys) x h inside fails passes =
      by (p y) (q y) refl refl (h y (Contains-first y ys)) (first_or_after y ys x inside)
      (filter-fewer p q ys (λ z in_rest. h z (Contains-after y ys z in_rest)))
      (λ later. filter-strictly_fewer p q ys x (λ z in_rest. h z (Contains-after y ys z in_rest)) later fails passes)
    where
      by : (a b : Bool) → p y ≡ a → q y ≡ b → (a ≡ true → b ≡ true) → (y ≡ x) ⊎ Contains ys x → length (filter p ys) ≤ length (filter q ys) →
          (Contains ys x → length (filter p ys) < length (filter q ys)) →
          length (cond a (y ∷ filter p ys) (filter p ys)) < length (cond b (y ∷ filter q ys) (filter q ys))
      by true b e f k (inl is) few rest = absurd (false≢true (sym fails ∙ ap p (sym is) ∙ e))
      by false true e f k (inl is) few rest = omega (arith, few)
      by false false e f k (inl is) few rest = absurd (false≢true (sym f ∙ ap q is ∙ passes))
      by true true e f k (inr later) few rest = let l = rest later in omega (arith, l)
      by true false e f k (inr later) few rest = absurd (false≢true (k refl))
      by false true e f k (inr later) few rest = let l = rest later in omega (arith, l)
      by false false e f k (inr later) few rest = rest later

  filter-none : (p : A → Bool) (xs : List A) → ((x : A) → Contains xs x → p x ≡ false) → length (filter p xs) ≡ 0
  filter-none p [] h = refl
  filter-none p (y ∷ ys) h = rw (h y (Contains-first y ys)) (filter-none p ys (λ x inside. h x (Contains-after y ys x inside)))

  -- at most one passes
  pub filter-once : (p : A → Bool) (xs : List A) → AllPairs (λ x y. p x ≡ true → p y ≡ true → ⊥) xs → length (filter p xs) ≤ 1
  filter-once p [] h = omega arith
  filter-once p (y ∷ ys) h = by (p y) refl (filter-once p ys (λ i j d below inside. h (suc i) (suc j) d (omega (arith, below)) (omega (arith, inside))))
    where
      others : p y ≡ true → (x : A) → Contains ys x → (b : Bool) → p x ≡ b → p x ≡ false
      others first x (k, l, e) true is = absurd (h 0 (suc k) x (omega arith) (omega (arith, l)) first (ap p e ∙ is))
      others first x inside false is = is

      by : (b : Bool) → p y ≡ b → length (filter p ys) ≤ 1 → length (cond b (y ∷ filter p ys) (filter p ys)) ≤ 1
      by true e rest = let none = filter-none p ys (λ x inside. others e x inside (p x) refl) in omega (arith, none)
      by false e rest = rest

  -- those below n + 1 are those below n and those at n
  pub filter-up_to : (f : A → ℕ) (n : ℕ) (xs : List A) →
      length (filter (λ x. nat_lt (f x) (n + 1)) xs) ≡ length (filter (λ x. nat_lt (f x) n) xs) + length (filter (λ x. nat_eq (f x) n) xs)
  filter-up_to f n [] = refl
  filter-up_to f n (y ∷ ys) = by (nat_lt (f y) (n + 1)) (nat_lt (f y) n) (nat_eq (f y) n) (which (f y)) (filter-up_to f n ys)
    where
      which : (m : ℕ) → cond (nat_lt m (n + 1)) 1 0 ≡ cond (nat_lt m n) 1 0 + cond (nat_eq m n) 1 0
      which m = grind (arith, nat_tests)

      by : (a b c : Bool) → cond a 1 0 ≡ cond b 1 0 + cond c 1 0 →
          length (filter (λ x. nat_lt (f x) (n + 1)) ys) ≡ length (filter (λ x. nat_lt (f x) n) ys) + length (filter (λ x. nat_eq (f x) n) ys) →
          length (cond a (y ∷ filter (λ x. nat_lt (f x) (n + 1)) ys) (filter (λ x. nat_lt (f x) (n + 1)) ys))
          ≡ length (cond b (y ∷ filter (λ x. nat_lt (f x) n) ys) (filter (λ x. nat_lt (f x) n) ys))
          + length (cond c (y ∷ filter (λ x. nat_eq (f x) n) ys) (filter (λ x. nat_eq (f x) n) ys))
      by true true true e l = absurd (omega (arith, e))
      by true true false e l = omega (arith, l)
      by true false true e l = omega (arith, l)
      by true false false e l = absurd (omega (arith, e))
      by false true true e l = absurd (omega (arith, e))
      by false true false e l = absurd (omega (arith, e))
      by false false true e l = absurd (omega (arith, e))
      by false false false e l = omega (arith, l)

  -- none is below 0
  pub filter-empty : (f : A → ℕ) (xs : List A) → length (filter (λ x. nat_lt (f x) 0) xs) ≡ 0
  filter-empty f xs = filter-none (λ x. nat_lt (f x) 0) xs (λ x inside. false_from_ne_true (nat_lt (f x) 0) (λ e. none (f x) (ltb-true (f x) 0 e)))
    where
      none : (m : ℕ) → m < 0 → ⊥
      none m l = omega (arith, l)
