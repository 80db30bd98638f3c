-- A search through 25 gains in order finds the best candidate.
use Rattle.std.proofs.Common.{◌≡◌, ℕ, ◌+◌, ◌*◌, ◌/◌, ◌%◌, ◌<◌, ◌≤◌, ◌⊎◌, inl, inr, arith, refl, ap, sym, ◌∙◌, subst, Bool, true, false, nat_lt, Option, Some, None, ltb-true, ltb-false, ℤ, pos, ◌+ℤ◌, ◌-ℤ◌, ◌≤ℤ◌, ◌<ℤ◌, nat_abs}
use Rattle.std.specs.Prelude.{if◌then◌else◌}
use Rattle.std.specs.Option.{option_or}
use Rattle.std.proofs.lemmas.Int.{ints}
use Rattle.std.proofs.lemmas.Bool.{cases_lt}
use Rattle.cs_num.specs.declared.Cpx.{Cpx}
use Rattle.cs_num.specs.Complex.{minus, square}
use Rattle.cs_num.proofs.Complex.{pair}
use Rattle.norms.proofs.Squares.{re-le, im-le}
use Rattle.cancel.specs.declared.choosing.GainChoice.{GainChoice}
use Rattle.cancel.specs.Gain.{IsCandidate, GoesBefore}
use Rattle.cancel.specs.Laws.{IsOneBest}
use Rattle.cancel.specs.Steps.{around, better_choice, choice_of, IsBestBefore, IsFoundBefore, IsLimit, IsChosen}

-- ---- each candidate is among the 25

record IsAround (m g : ℤ) : Type 0 where
  n : ℕ
  few : n < 5
  is : m +ℤ (pos n -ℤ pos 2) ≡ g

around_part : (g m : ℤ) → nat_abs (g -ℤ m) ≤ 2 → IsAround m g
around_part g m h = record { n = nat_abs (g -ℤ m +ℤ pos 2); few = omega (arith, ints); is = omega (arith, ints) }

record IsOneOf (middle gain : Cpx) : Type 0 where
  i : ℕ
  few : i < 25
  is : around middle i ≡ gain

one_of : (middle gain : Cpx) → square (minus gain middle) ≤ 4 → IsOneOf middle gain
one_of middle gain near =
    let a = around_part gain.re middle.re (re-le (minus gain middle) 2 near) in
    let b = around_part gain.im middle.im (im-le (minus gain middle) 2 near) in
    let row : (5 * a.n + b.n) / 5 ≡ a.n = let l = b.few in omega (arith, l) in
    let column : (5 * a.n + b.n) % 5 ≡ b.n = let l = b.few in omega (arith, l) in
    record {
      i = 5 * a.n + b.n;
      few = let k = a.few in let l = b.few in omega (arith, k, l);
      is = pair (ap (λ n. middle.re +ℤ (pos n -ℤ pos 2)) row ∙ a.is) (ap (λ n. middle.im +ℤ (pos n -ℤ pos 2)) column ∙ b.is);
    }

-- ---- the ranking

abbrev ComesFirst : Cpx → Cpx → Type 0
ComesFirst gain other = (gain.re <ℤ other.re) ⊎ ((gain.re ≡ other.re) × (gain.im ≤ℤ other.im))

earlier : (middle : Cpx) (i j : ℕ) → i < j → ComesFirst (around middle i) (around middle j)
earlier middle i j l = elim (cases_lt (i / 5) (j / 5)) [
  | inl less ↦ inl (lower middle.re (i / 5) (j / 5) less)
  | inr more ↦ (let e : i / 5 ≡ j / 5 = omega (arith, l, more) in
      inr (ap (λ n. middle.re +ℤ (pos n -ℤ pos 2)) e, no_lower middle.im (i % 5) (j % 5) (omega (arith, l, e))))
]
  where
    lower : (m : ℤ) (a b : ℕ) → a < b → (m +ℤ (pos a -ℤ pos 2)) <ℤ (m +ℤ (pos b -ℤ pos 2))
    lower m a b h = omega (arith, ints)

    no_lower : (m : ℤ) (a b : ℕ) → a ≤ b → (m +ℤ (pos a -ℤ pos 2)) ≤ℤ (m +ℤ (pos b -ℤ pos 2))
    no_lower m a b h = omega (arith, ints)

itself : (greatest : Cpx → ℕ) (gain : Cpx) → GoesBefore greatest gain gain
itself greatest gain = inr (refl, inr (refl, same gain.im))
  where
    same : (a : ℤ) → a ≤ℤ a
    same a = omega (arith, ints)

no_greater : (greatest : Cpx → ℕ) (gain other : Cpx) → GoesBefore greatest gain other → greatest gain ≤ greatest other
no_greater greatest gain other (inl less) = omega (arith, less)
no_greater greatest gain other (inr (same, rest)) = omega (arith, same)

-- ---- the search

module _ (greatest : Cpx → ℕ) (middle : Cpx) where
  last_or_before : (n j : ℕ) → j < n + 1 → (j < n) ⊎ (n ≡ j)
  last_or_before n j l = grind arith

  pub none_before : (limit : Option ℕ) → IsFoundBefore greatest middle limit 0 None
  none_before limit j l c = absurd (omega (arith, l))

  -- the choice stays the best if the next gain is no candidate or its residual is no smaller
  stays : (n : ℕ) (choice : GainChoice) → (IsCandidate middle (around middle n) → GoesBefore greatest choice.gain (around middle n)) → IsBestBefore greatest middle n choice
      → IsBestBefore greatest middle (n + 1) choice
  stays n choice next kept = record {
    index = kept.index;
    before = let l = kept.before in omega (arith, l);
    is = kept.is;
    candidate = kept.candidate;
    first = λ j l c. elim (last_or_before n j l) [
      | inl before ↦ kept.first j before c
      | inr here ↦ subst (λ k. GoesBefore greatest choice.gain (around middle k)) here (next (subst (λ k. IsCandidate middle (around middle k)) (sym here) c))
    ];
    leaves = kept.leaves;
  }

  -- the next gain is the best if its residual is smaller than all before
  is_new : (n : ℕ) → IsCandidate middle (around middle n) → ((j : ℕ) → j < n → IsCandidate middle (around middle j) → greatest (around middle n) < greatest (around middle j))
      → IsBestBefore greatest middle (n + 1) (choice_of greatest (around middle n))
  is_new n is less = record {
    index = n;
    before = omega arith;
    is = refl;
    candidate = is;
    first = λ j l c. elim (last_or_before n j l) [
      | inl before ↦ inl (less j before c)
      | inr here ↦ subst (λ k. GoesBefore greatest (around middle n) (around middle k)) here (itself greatest (around middle n))
    ];
    leaves = refl;
  }

  -- the next gain is no candidate
  pub passed : (limit : Option ℕ) (n : ℕ) (found : Option GainChoice) → (IsCandidate middle (around middle n) → ⊥) → IsFoundBefore greatest middle limit n found
      → IsFoundBefore greatest middle limit (n + 1) found
  passed limit n None fails kept = λ j l c. elim (last_or_before n j l) [
    | inl before ↦ kept j before c
    | inr here ↦ absurd (fails (subst (λ k. IsCandidate middle (around middle k)) (sym here) c))
  ]
  passed limit n (Some choice) fails kept = stays n choice (λ is. absurd (fails is)) kept

  less_than_all : (a b c : ℕ) → a < b → b ≤ c → a < c
  less_than_all a b c p q = omega (arith, p, q)

  -- the next gain is a candidate
  pub taken : (limit : Option ℕ) (n : ℕ) (found : Option GainChoice) → IsCandidate middle (around middle n) → IsFoundBefore greatest middle limit n found
      → IsFoundBefore greatest middle limit (n + 1) (better_choice limit found (choice_of greatest (around middle n)))
  taken None n None is kept = is_new n is (λ j l c. absurd (kept j l c))
  taken (Some end) n None is kept = settle (nat_lt (greatest (around middle n)) end) refl
    where
      settle : (b : Bool) → nat_lt (greatest (around middle n)) end ≡ b
          → IsFoundBefore greatest middle (Some end) (n + 1) (option_or (if b then Some (choice_of greatest (around middle n)) else None) None)
      settle true less = is_new n is (λ j l c. less_than_all (greatest (around middle n)) end (greatest (around middle j)) (ltb-true _ _ less) (kept j l c))
      settle false more = λ j l c. elim (last_or_before n j l) [
        | inl before ↦ kept j before c
        | inr here ↦ subst (λ k. end ≤ greatest (around middle k)) here (ltb-false _ _ more)
      ]
  taken limit n (Some choice) is kept = settle (nat_lt (greatest (around middle n)) choice.greatest) refl
    where
      settle : (b : Bool) → nat_lt (greatest (around middle n)) choice.greatest ≡ b
          → IsFoundBefore greatest middle limit (n + 1) (option_or (if b then Some (choice_of greatest (around middle n)) else None) (Some choice))
      settle true less = is_new n is (λ j l c. less_than_all (greatest (around middle n)) (greatest choice.gain) (greatest (around middle j))
          (subst (λ k. greatest (around middle n) < k) kept.leaves (ltb-true _ _ less)) (no_greater greatest choice.gain (around middle j) (kept.first j l c)))
      settle false more = stays n choice
          (λ _. either (greatest choice.gain) (greatest (around middle n)) (subst (λ k. k ≤ greatest (around middle n)) kept.leaves (ltb-false _ _ more))
          (subst (λ (g : Cpx). ComesFirst g (around middle n)) kept.is (earlier middle kept.index n kept.before))) kept
        where
          either : (a b : ℕ) → a ≤ b → ComesFirst choice.gain (around middle n) → (a < b) ⊎ ((a ≡ b) × ComesFirst choice.gain (around middle n))
          either a b h order = elim (cases_lt a b) [
            | inl less ↦ inl less
            | inr not_less ↦ (let e : a ≡ b = omega (arith, h, not_less) in inr (e, order))
          ]

  -- the middle is gain 12
  middle_is : around middle 12 ≡ middle
  middle_is = pair (unmoved middle.re) (unmoved middle.im)
    where
      unmoved : (a : ℤ) → a +ℤ (pos 2 -ℤ pos 2) ≡ a
      unmoved a = omega (arith, ints)

  -- the search through all 25 gains finds the best candidate, if there is one
  pub best_is_found : (limit : Option ℕ) (found : Option GainChoice) → IsLimit greatest middle limit → IsFoundBefore greatest middle limit 25 found → IsChosen greatest middle found
  best_is_found None None above kept = λ gain is.
      let at = one_of middle gain is.near in
      kept at.i at.few (subst (λ (g : Cpx). IsCandidate middle g) (sym at.is) is)
  best_is_found (Some end) None above kept = λ gain is.
      let past : end ≤ greatest middle = subst (λ (g : Cpx). end ≤ greatest g) middle_is (kept 12 (omega arith) (subst (λ (g : Cpx). IsCandidate middle g) (sym middle_is) above.0)) in
      let less = above.1 in
      absurd (omega (arith, past, less))
  best_is_found limit (Some choice) above kept = (
    record {
      candidate = kept.candidate;
      first = λ other is. let at = one_of middle other is.near in
          subst (λ (g : Cpx). GoesBefore greatest choice.gain g) at.is (kept.first at.i at.few (subst (λ (g : Cpx). IsCandidate middle g) (sym at.is) is));
    },
    kept.leaves,
  )

-- ---- uniqueness

pub best_is_one : IsOneBest
best_is_one greatest middle gain other first second = order (first.first other second.candidate) (second.first gain first.candidate)
  where
    parts : ComesFirst gain other → ComesFirst other gain → (gain.re ≡ other.re) × (gain.im ≡ other.im)
    parts (inl a) (inl b) = absurd (omega (arith, ints))
    parts (inl a) (inr (e, b)) = absurd (omega (arith, ints))
    parts (inr (e, a)) (inl b) = absurd (omega (arith, ints))
    parts (inr (e, a)) (inr (f, b)) = (e, both gain.im other.im a b)
      where
        both : (x y : ℤ) → x ≤ℤ y → y ≤ℤ x → x ≡ y
        both x y p q = omega (arith, ints)

    order : GoesBefore greatest gain other → GoesBefore greatest other gain → gain ≡ other
    order (inl a) (inl b) = absurd (omega (arith, a, b))
    order (inl a) (inr (e, b)) = absurd (omega (arith, a, e))
    order (inr (e, a)) (inl b) = absurd (omega (arith, b, e))
    order (inr (e, a)) (inr (f, b)) = let p = parts a b in pair p.0 p.1
