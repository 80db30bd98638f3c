-- The second pair is the first maximum among the others, and one pass over the scores finds both.
use Rattle.std.proofs.Common.{◌≡◌, ◌≢◌, ℕ, ◌+◌, ◌-◌, ◌<◌, ◌≤◌, ◌⊎◌, inl, inr, arith, refl, ap, ap₂, sym, subst, ◌∙◌, Bool, true, false, ℤ, ◌<ℤ◌, ◌≤ℤ◌, int_lt, nat_lt}
use Rattle.std.specs.Prelude.{if◌then◌else◌}
use Rattle.std.proofs.lemmas.Bool.Decides.{nat_tests}
use Rattle.finite.proofs.Integers.{lt-le, lt-not_le}
use Rattle.lte_types.specs.declared.frame.Half.{Half}
use Rattle.lte_types.specs.declared.frame.Half.TheVariants.{Zero, Five}
use Rattle.sss_detect.specs.declared.rank.Choice.{Choice}
use Rattle.sss_detect.specs.declared.rank.Ranking.{Ranking}
use Rattle.sss_detect.specs.Identity.{IsBefore, IsBest, first_greatest, best_pair}
use Rattle.sss_detect.specs.Second.{IsSecond, pair_at, place_of, score_at, left_without, next_greatest, second_pair, choice_of, ranking_of}
use Rattle.sss_detect.specs.Laws.{SecondPairIsSecond, OnlyOneIsSecond}
use Rattle.sss_detect.proofs.Choices.{less, not_less, under, equal-le, first_greatest-le, first_greatest_is, first_greatest_first, best_pair_is_best, only_one_is_best, same_pair}

-- ---- pair numbers

-- the first maximum among the first `count` values
pub record IsTop (f : ℕ → ℤ) (count top : ℕ) : Type 0 where
  pub inside : top < count
  pub greatest : (k : ℕ) → k < count → f k ≤ℤ f top
  pub first : (k : ℕ) → k < top → f k <ℤ f top

-- the first maximum when one index is removed
pub record IsNext (f : ℕ → ℤ) (count taken next : ℕ) : Type 0 where
  pub inside : next < count
  pub another : next ≢ taken
  pub greatest : (k : ℕ) → k < count → k ≢ taken → f k ≤ℤ f next
  pub first : (k : ℕ) → k < next → k ≢ taken → f k <ℤ f next

before_or_last : (k n : ℕ) → k < n + 1 → (k < n) ⊎ (k ≡ n)
before_or_last k n l = grind arith

-- one more index
top_kept : (f : ℕ → ℤ) (n top : ℕ) → IsTop f n top → f n ≤ℤ f top → IsTop f (n + 1) top
top_kept f n top p l = record { inside = omega (arith, p.inside); greatest = λ k b. at k (before_or_last k n b); first = p.first }
  where
    at : (k : ℕ) → (k < n) ⊎ (k ≡ n) → f k ≤ℤ f top
    at k (inl b) = p.greatest k b
    at k (inr e) = subst (λ i. f i ≤ℤ f top) (sym e) l

top_passed : (f : ℕ → ℤ) (n top : ℕ) → IsTop f n top → f top <ℤ f n → IsTop f (n + 1) n
top_passed f n top p l = record { inside = omega arith; greatest = λ k b. at k (before_or_last k n b); first = λ k b. under _ _ _ (p.greatest k b) l }
  where
    at : (k : ℕ) → (k < n) ⊎ (k ≡ n) → f k ≤ℤ f n
    at k (inl b) = lt-le _ _ (under _ _ _ (p.greatest k b) l)
    at k (inr e) = subst (λ i. f i ≤ℤ f n) (sym e) (equal-le (f n))

next_kept : (f : ℕ → ℤ) (n taken next : ℕ) → IsNext f n taken next → f n ≤ℤ f next → IsNext f (n + 1) taken next
next_kept f n taken next p l = record { inside = omega (arith, p.inside); another = p.another; greatest = λ k b. at k (before_or_last k n b); first = p.first }
  where
    at : (k : ℕ) → (k < n) ⊎ (k ≡ n) → k ≢ taken → f k ≤ℤ f next
    at k (inl b) o = p.greatest k b o
    at k (inr e) o = subst (λ i. f i ≤ℤ f next) (sym e) l

next_passed : (f : ℕ → ℤ) (n taken next : ℕ) → IsNext f n taken next → taken < n → f next <ℤ f n → IsNext f (n + 1) taken n
next_passed f n taken next p t l = record {
  inside = omega arith;
  another = omega (arith, t);
  greatest = λ k b. at k (before_or_last k n b);
  first = λ k b o. under _ _ _ (p.greatest k b o) l;
}
  where
    at : (k : ℕ) → (k < n) ⊎ (k ≡ n) → k ≢ taken → f k ≤ℤ f n
    at k (inl b) o = lt-le _ _ (under _ _ _ (p.greatest k b o) l)
    at k (inr e) o = subst (λ i. f i ≤ℤ f n) (sym e) (equal-le (f n))

-- the earlier maximum comes second if the last value is the maximum
next_from_top : (f : ℕ → ℤ) (n top : ℕ) → IsTop f n top → IsNext f (n + 1) n top
next_from_top f n top p = record {
  inside = omega (arith, p.inside);
  another = omega (arith, p.inside);
  greatest = λ k b o. p.greatest k (omega (arith, b, o));
  first = λ k b o. p.first k b;
}

-- ---- a row of pairs, one after the other

abbrev choices : (ℕ → Half → ℤ) → ℕ → ℕ → Ranking
choices scores top next = record { best = choice_of scores (pair_at top); second = choice_of scores (pair_at next) }

-- these are the two best among the first `count` pairs
pub record AreBestTwo (scores : ℕ → Half → ℤ) (count : ℕ) (ranking : Ranking) : Type 0 where
  pub top : ℕ
  pub next : ℕ
  pub is : ranking ≡ choices scores top next
  pub is_top : IsTop (score_at scores) count top
  pub is_next : IsNext (score_at scores) count top next

one_alone : (f : ℕ → ℤ) → IsTop f 1 0
one_alone f = record { inside = omega arith; greatest = λ k b. at k (omega arith); first = λ k b. absurd (omega arith) }
  where
    at : (k : ℕ) → k ≡ 0 → f k ≤ℤ f 0
    at k e = subst (λ i. f i ≤ℤ f 0) (sym e) (equal-le (f 0))

other_alone : (f : ℕ → ℤ) → IsNext f 2 0 1
other_alone f = record { inside = omega arith; another = omega arith; greatest = λ k b o. at k (omega (arith, b, o)); first = λ k b o. absurd (omega (arith, b, o)) }
  where
    at : (k : ℕ) → k ≡ 1 → f k ≤ℤ f 1
    at k e = subst (λ i. f i ≤ℤ f 1) (sym e) (equal-le (f 1))

abbrev in_order : Choice → Choice → Ranking
in_order first other = if int_lt first.score other.score then record { best = other; second = first } else record { best = first; second = other }

pub first_two : (scores : ℕ → Half → ℤ) (first other : Choice) (ranking : Ranking) → first ≡ choice_of scores (pair_at 0) → other ≡ choice_of scores (pair_at 1) →
    ranking ≡ in_order first other → AreBestTwo scores 2 ranking
first_two scores first other ranking a b e = settle (int_lt (score_at scores 0) (score_at scores 1)) refl made
  where
    made : ranking ≡ (if int_lt (score_at scores 0) (score_at scores 1) then choices scores 1 0 else choices scores 0 1)
    made = e ∙ ap (λ x. in_order x other) a ∙ ap (in_order (choice_of scores (pair_at 0))) b

    settle : (t : Bool) → int_lt (score_at scores 0) (score_at scores 1) ≡ t → ranking ≡ (if t then choices scores 1 0 else choices scores 0 1) → AreBestTwo scores 2 ranking
    settle true t is = record { top = 1; next = 0; is = is; is_top = top_passed (score_at scores) 1 0 (one_alone (score_at scores)) (less _ _ t); is_next = next_from_top (score_at scores) 1 0 (one_alone (score_at scores)) }
    settle false t is = record { top = 0; next = 1; is = is; is_top = top_kept (score_at scores) 1 0 (one_alone (score_at scores)) (not_less _ _ t); is_next = other_alone (score_at scores) }

-- the two best pairs when another one follows
abbrev with_next : Ranking → Choice → Ranking
with_next before next =
    if int_lt before.best.score next.score then record { best = next; second = before.best }
    else record { best = before.best; second = if int_lt before.second.score next.score then next else before.second }

pub one_more : (scores : ℕ → Half → ℤ) (n : ℕ) (before ranking : Ranking) (next : Choice) → AreBestTwo scores n before → next ≡ choice_of scores (pair_at n) →
    ranking ≡ with_next before next → AreBestTwo scores (n + 1) ranking
one_more scores n before ranking next p a e = settle (int_lt (f p.top) (f n)) (int_lt (f p.next) (f n)) refl refl made
  where
    f : ℕ → ℤ
    f = score_at scores

    chosen : Bool → Bool → Ranking
    chosen t u =
        if t then choices scores n p.top
        else record { best = choice_of scores (pair_at p.top); second = if u then choice_of scores (pair_at n) else choice_of scores (pair_at p.next) }

    made : ranking ≡ chosen (int_lt (f p.top) (f n)) (int_lt (f p.next) (f n))
    made = e ∙ ap (λ b. with_next b next) p.is ∙ ap (with_next (choices scores p.top p.next)) a

    settle : (t u : Bool) → int_lt (f p.top) (f n) ≡ t → int_lt (f p.next) (f n) ≡ u → ranking ≡ chosen t u → AreBestTwo scores (n + 1) ranking
    settle true u t v is = record { top = n; next = p.top; is = is; is_top = top_passed f n p.top p.is_top (less _ _ t); is_next = next_from_top f n p.top p.is_top }
    settle false true t v is = record { top = p.top; next = n; is = is; is_top = top_kept f n p.top p.is_top (not_less _ _ t); is_next = next_passed f n p.top p.next p.is_next p.is_top.inside (less _ _ v) }
    settle false false t v is = record { top = p.top; next = p.next; is = is; is_top = top_kept f n p.top p.is_top (not_less _ _ t); is_next = next_kept f n p.top p.next p.is_next (not_less _ _ v) }

-- ---- pairs and their numbers

place-le : (m : ℕ) (half : Half) → m ≤ 167 → place_of (m, half) < 336
place-le m Zero l = omega arith
place-le m Five l = omega arith

pair_at_place : (m : ℕ) (half : Half) → m ≤ 167 → pair_at (place_of (m, half)) ≡ (m, half)
pair_at_place m Zero l = let t : nat_lt m 168 ≡ true = grind (arith, nat_tests) in rw t refl
pair_at_place m Five l =
    let t : nat_lt (168 + m) 168 ≡ false = grind (arith, nat_tests) in
    let e : 168 + m - 168 ≡ m = omega arith in
    rw (t, e) refl

place_of_pair : (i : ℕ) → place_of (pair_at i) ≡ i
place_of_pair i = settle (nat_lt i 168) refl
  where
    settle : (b : Bool) → nat_lt i 168 ≡ b → place_of (if b then (i, Zero) else (i - 168, Five)) ≡ i
    settle true t = refl
    settle false t = let l : 168 ≤ i = grind (arith, nat_tests) in omega arith

group-le : (i : ℕ) → i < 336 → (pair_at i).0 ≤ 167
group-le i l = settle (nat_lt i 168) refl
  where
    pair : Bool → ℕ × Half
    pair b = if b then (i, Zero) else (i - 168, Five)

    settle : (b : Bool) → nat_lt i 168 ≡ b → (pair b).0 ≤ 167
    settle true t = grind (arith, nat_tests)
    settle false t = omega arith

-- an earlier pair has a lower number
before_is : (m n : ℕ) (half other : Half) → m ≤ 167 → IsBefore m half n other → place_of (m, half) < place_of (n, other)
before_is m n Zero Zero l b = b
before_is m n Zero Five l b = omega arith
before_is m n Five Zero l b = absurd b
before_is m n Five Five l b = omega arith

score_there : (scores : ℕ → Half → ℤ) (m : ℕ) (half : Half) → m ≤ 167 → score_at scores (place_of (m, half)) ≡ scores m half
score_there scores m half l = ap (λ (pair : ℕ × Half). scores pair.0 pair.1) (pair_at_place m half l)

lower_place : (i m : ℕ) (other : Half) → m ≤ 167 → IsBefore m other (pair_at i).0 (pair_at i).1 → place_of (m, other) < i
lower_place i m other l b = subst (λ j. place_of (m, other) < j) (place_of_pair i) (before_is m (pair_at i).0 other (pair_at i).1 l b)

pub top_is_best : (scores : ℕ → Half → ℤ) (top : ℕ) → IsTop (score_at scores) 336 top → IsBest scores (pair_at top).0 (pair_at top).1
top_is_best scores top p = record {
  known = group-le top p.inside;
  greatest = λ m other l. subst (λ z. z ≤ℤ score_at scores top) (score_there scores m other l) (p.greatest (place_of (m, other)) (place-le m other l));
  first = λ m other l b. subst (λ z. z <ℤ score_at scores top) (score_there scores m other l) (p.first (place_of (m, other)) (lower_place top m other l b));
}

-- a different pair has a different number
another_place : (i m : ℕ) (other : Half) → m ≤ 167 → (m, other) ≢ pair_at i → place_of (m, other) ≢ i
another_place i m other l o e = o (sym (pair_at_place m other l) ∙ ap pair_at e)

pub next_is_second : (scores : ℕ → Half → ℤ) (top next : ℕ) → IsNext (score_at scores) 336 top next → IsSecond scores (pair_at top) (pair_at next).0 (pair_at next).1
next_is_second scores top next p = record {
  known = group-le next p.inside;
  another = λ e. p.another (sym (place_of_pair next) ∙ ap place_of e ∙ place_of_pair top);
  greatest = λ m other l o. subst (λ z. z ≤ℤ score_at scores next) (score_there scores m other l) (p.greatest (place_of (m, other)) (place-le m other l) (another_place top m other l o));
  first = λ m other l o b. subst (λ z. z <ℤ score_at scores next) (score_there scores m other l) (p.first (place_of (m, other)) (lower_place next m other l b) (another_place top m other l o));
}

-- ---- the second pair

left_is_other : (taken i : ℕ) → left_without taken i ≢ taken
left_is_other taken i = settle (nat_lt i taken) refl
  where
    settle : (b : Bool) → nat_lt i taken ≡ b → (if b then i else i + 1) ≢ taken
    settle true t = let l : i < taken = grind (arith, nat_tests) in omega arith
    settle false t = let l : taken ≤ i = grind (arith, nat_tests) in omega arith

left-le : (taken i : ℕ) → left_without taken i ≤ i + 1
left-le taken i = settle (nat_lt i taken)
  where
    settle : (b : Bool) → (if b then i else i + 1) ≤ i + 1
    settle true = omega arith
    settle false = omega arith

-- each other index remains
record IsLeft (taken k : ℕ) : Type 0 where
  at : ℕ
  is : left_without taken at ≡ k
  below : at ≤ k
  within : (n : ℕ) → k < n + 1 → taken < n + 1 → at < n

is_left : (taken k : ℕ) → k ≢ taken → IsLeft taken k
is_left taken k o = settle (nat_lt k taken) refl
  where
    settle : (b : Bool) → nat_lt k taken ≡ b → IsLeft taken k
    settle true t =
        let l : k < taken = grind (arith, nat_tests) in
        record { at = k; is = rw t refl; below = omega arith; within = λ n a b. omega (arith, a, b, l) }
    settle false t =
        let l : taken < k = grind (arith, nat_tests) in
        let u : nat_lt (k - 1) taken ≡ false = grind (arith, nat_tests) in
        record { at = k - 1; is = rw u (omega arith); below = omega arith; within = λ n a b. omega (arith, a, b, l) }

lower_left : (taken i j : ℕ) → left_without taken i < left_without taken j → i < j
lower_left taken i j l = settle (nat_lt i taken) (nat_lt j taken) refl refl l
  where
    settle : (a b : Bool) → nat_lt i taken ≡ a → nat_lt j taken ≡ b → (if a then i else i + 1) < (if b then j else j + 1) → i < j
    settle true true p q lower = lower
    settle true false p q lower = let x : i < taken = grind (arith, nat_tests) in let y : taken ≤ j = grind (arith, nat_tests) in omega arith
    settle false true p q lower = omega arith
    settle false false p q lower = omega arith

next_greatest_is : (f : ℕ → ℤ) (n taken : ℕ) → taken < n + 2 → IsNext f (n + 2) taken (next_greatest f taken n)
next_greatest_is f n taken t = record {
  inside = let a = left-le taken (first_greatest left n) in let b = first_greatest-le left n in omega (arith, a, b);
  another = left_is_other taken (first_greatest left n);
  greatest = λ k l o. let i = is_left taken k o in
      subst (λ j. f j ≤ℤ f (next_greatest f taken n)) i.is (first_greatest_is left n i.at (let w = i.within (n + 1) (omega (arith, l)) (omega (arith, t)) in omega (arith, w)));
  first = λ k l o. let i = is_left taken k o in
      subst (λ j. f j <ℤ f (next_greatest f taken n)) i.is (first_greatest_first left n i.at (lower_left taken i.at (first_greatest left n) (subst (λ j. j < next_greatest f taken n) (sym i.is) l)));
}
  where
    left : ℕ → ℤ
    left i = f (left_without taken i)

pub second_pair_is_second : SecondPairIsSecond
unfolding second_pair
second_pair_is_second scores =
    let best = best_pair scores in
    let known = (best_pair_is_best scores).known in
    let taken = place_of best in
    let p = next_is_second scores taken (next_greatest (score_at scores) taken 334) (next_greatest_is (score_at scores) 334 taken (place-le best.0 best.1 known)) in
    subst (λ pair. IsSecond scores pair (second_pair scores).0 (second_pair scores).1) (pair_at_place best.0 best.1 known) p

one_pair : (n : ℕ) (half : Half) (pair : ℕ × Half) → (n ≡ pair.0) × (half ≡ pair.1) → (n, half) ≡ pair
one_pair n half pair e = ap₂ (λ (m : ℕ) (other : Half). (m, other)) e.0 e.1

pub only_one_is_second : OnlyOneIsSecond
only_one_is_second scores n1 half p =
    let second = second_pair_is_second scores in
    one_pair n1 half (second_pair scores) (same_pair n1 (second_pair scores).0 half (second_pair scores).1
    (λ b. lt-not_le _ _ (second.first n1 half p.known p.another b) (p.greatest (second_pair scores).0 (second_pair scores).1 second.known second.another))
    (λ b. lt-not_le _ _ (p.first (second_pair scores).0 (second_pair scores).1 second.known second.another b) (second.greatest n1 half p.known p.another)))

-- one pass over all pairs gives the ranking
pub all_pairs : (scores : ℕ → Half → ℤ) (ranking : Ranking) → AreBestTwo scores 336 ranking → ranking ≡ ranking_of scores
unfolding ranking_of
all_pairs scores ranking p =
    let best : pair_at p.top ≡ best_pair scores =
    one_pair (pair_at p.top).0 (pair_at p.top).1 (best_pair scores) (only_one_is_best scores (pair_at p.top).0 (pair_at p.top).1 (top_is_best scores p.top p.is_top)) in
    let seconds = next_is_second scores p.top p.next p.is_next in
    let second : pair_at p.next ≡ second_pair scores =
    only_one_is_second scores (pair_at p.next).0 (pair_at p.next).1 (subst (λ pair. IsSecond scores pair (pair_at p.next).0 (pair_at p.next).1) best seconds) in
    p.is ∙ rw (best, second) refl
