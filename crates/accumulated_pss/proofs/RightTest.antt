-- The test for a maximum and its definition agree; two maxima are more than nine positions apart.
use Rattle.std.proofs.Common.{◌≡◌, ◌≢◌, inl, inr, ℕ, ◌+◌, ◌-◌, ◌<◌, ◌≤◌, List, true, arith, refl, ap, sym, ◌∙◌, nat_lt, nat_le}
use Rattle.std.proofs.lemmas.Bool.{cases_lt, and_parts, and_from, ltb-true, leb-true, lt-ltb, le-leb}
use Rattle.finite.proofs.Tests.{every_below_at, every_below_all}
use Rattle.accumulated_pss.specs.Sums.{IsPosition, sum_at}
use Rattle.accumulated_pss.specs.Tests.{position_after, stands_out_by, stands_out, is_maximum}
use Rattle.accumulated_pss.specs.Maxima.{steps, distance, IsMaximum}
use Rattle.accumulated_pss.specs.Laws.{TestIsRight}
use Rattle.accumulated_pss.proofs.Circle.{after_position, after_is, before_is, steps_after, steps_before, no_step, near_cases, near_forwards, near_backwards}

-- what a passed test says of the two positions d + 1 samples away
stands_by : (row : List ℕ) (t d : ℕ) → stands_out row t ≡ true → d < 9 →
    (sum_at row (position_after t (d + 1)) ≤ sum_at row t) × (sum_at row (position_after t (9600 - 1 - d)) < sum_at row t)
unfolding stands_out stands_out_by
stands_by row t d e l =
    let parts = and_parts (nat_le (sum_at row (position_after t (d + 1))) (sum_at row t)) (nat_lt (sum_at row (position_after t (9600 - 1 - d))) (sum_at row t))
    (every_below_at 9 (stands_out_by row t) e d l) in
    (leb-true _ _ parts.0, ltb-true _ _ parts.1)

-- a sum after is not greater
after_le : (row : List ℕ) (t u : ℕ) → IsPosition t → IsPosition u → stands_out row t ≡ true → steps t u ≤ 9 → sum_at row u ≤ sum_at row t
after_le row t u p q e near = elim (cases_lt 0 (steps t u)) [
  | inl some ↦
      let d : steps t u - 1 + 1 ≡ steps t u = omega (arith, some) in
      let there = after_is t u (steps t u - 1 + 1) p q (sym d) in
      let le = (stands_by row t (steps t u - 1) e (omega (arith, some, near))).0 in
      let same = ap (sum_at row) there in
      omega (arith, le, same)
  | inr none ↦
      let same = ap (sum_at row) (no_step t u p q (omega (arith, none))) in
      omega (arith, same)
]

-- a sum before is less
before_lt : (row : List ℕ) (t u : ℕ) → IsPosition t → IsPosition u → stands_out row t ≡ true → 1 ≤ steps u t → steps u t ≤ 9 → sum_at row u < sum_at row t
before_lt row t u p q e some near =
    let d : 9600 - 1 - (steps u t - 1) ≡ 9600 - steps u t = omega (arith, some, near) in
    let there = ap (position_after t) d ∙ before_is t u (steps u t) p q some near refl in
    let lt = (stands_by row t (steps u t - 1) e (omega (arith, some, near))).1 in
    let same = ap (sum_at row) there in
    omega (arith, lt, same)

before_le : (row : List ℕ) (t u : ℕ) → IsPosition t → IsPosition u → stands_out row t ≡ true → steps u t ≤ 9 → sum_at row u ≤ sum_at row t
before_le row t u p q e near = elim (cases_lt 0 (steps u t)) [
  | inl some ↦ (let lt = before_lt row t u p q e some near in omega (arith, lt))
  | inr none ↦
      let same = ap (sum_at row) (no_step u t q p (omega (arith, none))) in
      omega (arith, same)
]

pub to_maximum : (row : List ℕ) (t : ℕ) → IsPosition t → is_maximum row t ≡ true → IsMaximum row t
unfolding is_maximum
to_maximum row t p e =
    let parts = and_parts (nat_lt 0 (sum_at row t)) (stands_out row t) e in
    record {
      position = p;
      positive = ltb-true 0 (sum_at row t) parts.0;
      none_greater = λ u q near. elim (near_cases t u near) [
        | inl after ↦ after_le row t u p q parts.1 after
        | inr before ↦ before_le row t u p q parts.1 before
      ];
      none_equal_before = λ u q some near same. let lt = before_lt row t u p q parts.1 some near in omega (arith, lt, same);
    }

stands_from : (row : List ℕ) (t d : ℕ) → IsMaximum row t → d < 9 → stands_out_by row t d ≡ true
unfolding stands_out_by
stands_from row t d is l =
    and_from (nat_le (sum_at row (position_after t (d + 1))) (sum_at row t)) (nat_lt (sum_at row (position_after t (9600 - 1 - d))) (sum_at row t))
    (le-leb _ _ after) (lt-ltb _ _ before)
  where
    after : sum_at row (position_after t (d + 1)) ≤ sum_at row t
    after = is.none_greater (position_after t (d + 1)) (after_position t (d + 1))
        (near_forwards t (position_after t (d + 1)) (d + 1) (steps_after t (d + 1) is.position (omega (arith, l))) (omega (arith, l)))

    far : 9600 - 1 - d ≡ 9600 - (d + 1)
    far = omega (arith, l)

    back : steps (position_after t (9600 - 1 - d)) t ≡ d + 1
    back = ap (λ b. steps (position_after t b) t) far ∙ steps_before t (d + 1) is.position (omega arith) (omega (arith, l))

    some_step : (s d : ℕ) → s ≡ d + 1 → 1 ≤ s
    some_step s d e = omega (arith, e)

    few_steps : (s d : ℕ) → s ≡ d + 1 → d < 9 → s ≤ 9
    few_steps s d e l = omega (arith, e, l)

    less : (a b : ℕ) → a ≤ b → a ≢ b → a < b
    less a b le differs = elim (cases_lt a b) [
      | inl lt ↦ lt
      | inr past ↦ absurd (differs (omega (arith, le, past)))
    ]

    before : sum_at row (position_after t (9600 - 1 - d)) < sum_at row t
    before =
        let u : ℕ = position_after t (9600 - 1 - d) in
        let q = after_position t (9600 - 1 - d) in
        let le = is.none_greater u q (near_backwards t u (d + 1) back (omega (arith, l))) in
        let differs = is.none_equal_before u q (some_step (steps u t) d back) (few_steps (steps u t) d back l) in
        less (sum_at row u) (sum_at row t) le differs

pub from_maximum : (row : List ℕ) (t : ℕ) → IsMaximum row t → is_maximum row t ≡ true
unfolding is_maximum stands_out
from_maximum row t is =
    and_from (nat_lt 0 (sum_at row t)) (stands_out row t) (lt-ltb 0 (sum_at row t) is.positive)
    (every_below_all 9 (stands_out_by row t) (λ d l. stands_from row t d is l))

pub test_is_right : TestIsRight
test_is_right row t p = (to_maximum row t p, from_maximum row t)

-- ---- two maxima

-- a maximum has no other within nine positions after it
none_after : (row : List ℕ) (t u : ℕ) → IsMaximum row t → IsMaximum row u → t ≢ u → steps t u ≤ 9 → ⊥
none_after row t u is other differ near = elim (cases_lt 0 (steps t u)) [
  | inl some ↦
      let a = is.none_greater u other.position (near_forwards t u (steps t u) refl near) in
      let b = other.none_greater t is.position (near_backwards u t (steps t u) refl near) in
      other.none_equal_before t is.position some near (omega (arith, a, b))
  | inr none ↦ differ (no_step t u is.position other.position (omega (arith, none)))
]

pub maxima_apart : (row : List ℕ) (t u : ℕ) → IsMaximum row t → IsMaximum row u → t ≢ u → 9 < distance t u
maxima_apart row t u is other differ = elim (cases_lt 9 (distance t u)) [
  | inl far ↦ far
  | inr close ↦ absurd (elim (near_cases t u close) [
    | inl after ↦ none_after row t u is other differ after
    | inr before ↦ none_after row u t other is (λ e. differ (sym e)) before
  ])
]
