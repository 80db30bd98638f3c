-- Soft values select exactly one indicator.
use Rattle.std.proofs.Common.{◌≡◌, ◌⊎◌, ℕ, zero, suc, ◌-◌, ◌%◌, ◌<◌, ◌≤◌, inl, inr, Bool, true, false, nat_eq, refl, sym, ◌∙◌, List, ℤ, pos, slice_index_or, arith}
use Rattle.std.proofs.lemmas.Bool.{cases_lt, eqb-true, eq-eqb, false≢true}
use Rattle.std.proofs.lemmas.Bool.Decides.{nat_tests}
use Rattle.finite.proofs.Sums.{total_below-within, total_some}
use Rattle.cs_bits.specs.Signs.{disagreement}
use Rattle.grid_map.specs.Scrambling.{indicator_bit}
use Rattle.pcfich.specs.Indicator.{cost, IsIndicator, Speak}

-- a property that 1, 2 and 3 have holds for each indicator
of_each : (P : ℕ → Type 0) → P 1 → P 2 → P 3 → (k : ℕ) → 1 ≤ k → k ≤ 3 → P k
of_each P a b c zero low high = absurd (omega (arith, low))
of_each P a b c (suc zero) low high = a
of_each P a b c (suc (suc zero)) low high = b
of_each P a b c (suc (suc (suc zero))) low high = c
of_each P a b c (suc (suc (suc (suc k)))) low high = absurd (omega (arith, high))

-- an indicator that costs no more than the others, and less than the lower ones, is selected
best : (values : List ℤ) (k : ℕ) → 1 ≤ k → k ≤ 3 → cost values k ≤ cost values 1 → cost values k ≤ cost values 2 → cost values k ≤ cost values 3 →
    (1 < k → cost values k < cost values 1) → (2 < k → cost values k < cost values 2) → IsIndicator values k
best values k low high one two three first second = record {
  range = (low, high);
  least = of_each (λ other. cost values k ≤ cost values other) one two three;
  first = λ other some before.
      of_each (λ other. other < k → cost values k < cost values other) first second (λ l. absurd (omega (arith, l, high))) other some (omega (arith, before, high)) before;
}

pub some_indicator : (values : List ℤ) → (indicator : ℕ) × IsIndicator values indicator
some_indicator values = elim (cases_lt (cost values 2) (cost values 1)) [
  | inl a ↦ elim (cases_lt (cost values 3) (cost values 2)) [
    | inl b ↦ (3, best values 3 (omega arith) (omega arith) (omega (arith, a, b)) (omega (arith, b)) (omega arith) (λ _. omega (arith, a, b)) (λ _. b))
    | inr b ↦ (2, best values 2 (omega arith) (omega arith) (omega (arith, a)) (omega arith) b (λ _. a) (λ l. absurd (omega (arith, l))))
  ]
  | inr a ↦ elim (cases_lt (cost values 3) (cost values 1)) [
    | inl b ↦ (3, best values 3 (omega arith) (omega arith) (omega (arith, b)) (omega (arith, a, b)) (omega arith) (λ _. b) (λ _. omega (arith, a, b)))
    | inr b ↦ (1, best values 1 (omega arith) (omega arith) (omega arith) a b (λ l. absurd (omega (arith, l))) (λ l. absurd (omega (arith, l))))
  ]
]

-- no two indicators are selected
pub one_indicator : (values : List ℤ) (a b : ℕ) → IsIndicator values a → IsIndicator values b → a ≡ b
one_indicator values a b p q = cases (cases_lt a b) (cases_lt b a)
  where
    cases : (a < b) ⊎ (b ≤ a) → (b < a) ⊎ (a ≤ b) → a ≡ b
    cases (inl l) r = absurd (let x = q.first a p.range.0 l in let y = p.least b q.range.0 q.range.1 in omega (arith, x, y))
    cases (inr l) (inl m) = absurd (let x = p.first b q.range.0 m in let y = q.least a p.range.0 p.range.1 in omega (arith, x, y))
    cases (inr l) (inr m) = omega (arith, l, m)

-- ---- values that agree with an indicator

-- an indicator with which all values agree costs nothing
sent_free : (values : List ℤ) (sent : ℕ) → Speak values sent → cost values sent ≡ 0
unfolding cost
sent_free values sent speak =
    let within = total_below-within 32 0 (λ i. disagreement (slice_index_or values i (pos 0)) (indicator_bit sent i)) (λ k l. let none = (speak k l).free in omega (arith, none)) in
    omega (arith, within)

-- any other indicator differs in some bit, and so costs more than 0
other_dear : (values : List ℤ) (sent other : ℕ) → 1 ≤ sent → sent ≤ 3 → 1 ≤ other → other ≤ 3 → (sent ≡ other → ⊥) → Speak values sent → 0 < cost values other
unfolding cost
other_dear values sent other a b c d differ speak =
    let dear = (speak (sent - 1) (omega arith)).costs in
    let own : nat_eq ((sent - 1) % 3) (sent - 1) ≡ true = grind (arith, nat_tests) in
    let others : nat_eq ((sent - 1) % 3) (other - 1) ≡ false = grind (arith, nat_tests, differ) in
    let dear' = rw own at dear in
    total_some 32 (sent - 1) (λ i. disagreement (slice_index_or values i (pos 0)) (indicator_bit other i)) (omega arith) (rw others (omega (arith, dear')))

-- if all values agree with an indicator, it is selected
pub spoken_indicator : (values : List ℤ) (sent decoded : ℕ) → 1 ≤ sent → sent ≤ 3 → Speak values sent → IsIndicator values decoded → decoded ≡ sent
spoken_indicator values sent decoded a b speak is = settle (nat_eq sent decoded) refl
  where
    settle : (t : Bool) → nat_eq sent decoded ≡ t → decoded ≡ sent
    settle true e = sym (eqb-true _ _ e)
    settle false e =
        absurd (let free = sent_free values sent speak in
        let least = is.least sent a b in
        let dear = other_dear values sent decoded a b is.range.0 is.range.1 (λ same. false≢true (sym e ∙ eq-eqb _ _ same)) speak in
        omega (arith, free, least, dear))
