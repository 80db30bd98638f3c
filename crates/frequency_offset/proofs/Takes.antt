-- The selected candidates, one by one.
use Rattle.std.proofs.Common.{◌≡◌, ℕ, zero, suc, ◌+◌, ◌-◌, ◌<◌, List, [], ◌∷◌, ◌++◌, Option, Some, None, arith, refl, ap, ap₂, sym, ◌∙◌, append_assoc, append-nil}
use Rattle.std.specs.Prelude.{All, filter}
use Rattle.std.specs.Option.{option_map_or}
use Rattle.std.proofs.lemmas.List.Elements.{All-filter}
use Rattle.frequency_offset.specs.declared.candidate.Candidate.{Candidate}
use Rattle.frequency_offset.specs.Fractions.{greatest}
use Rattle.frequency_offset.specs.Candidates.{is_far, first_taken}
use Rattle.frequency_offset.proofs.Greatest.{greatest_has}

abbrev pub best_of_all : List Candidate → Option Candidate
best_of_all candidates = greatest (λ (c : Candidate). c.fraction) candidates

pub taken_none : (n : ℕ) (candidates : List Candidate) → best_of_all candidates ≡ None → first_taken n candidates ≡ []
unfolding first_taken
taken_none zero candidates e = refl
taken_none (suc n) candidates e = rw e refl

pub taken_more : (n : ℕ) (candidates : List Candidate) (best : Candidate) → 0 < n → best_of_all candidates ≡ Some best →
    first_taken n candidates ≡ best ∷ first_taken (n - 1) (filter (is_far best) candidates)
unfolding first_taken
taken_more zero candidates best some e = absurd (omega (arith, some))
taken_more (suc n) candidates best some e =
    let less : suc n - 1 ≡ n = omega arith in
    rw (e, less) refl

pub taken_no_more : (candidates : List Candidate) → first_taken 0 candidates ≡ []
unfolding first_taken
taken_no_more candidates = refl

-- the loop's step: the selected candidates, and those that remain
pub one_taken : (n more : ℕ) (all taken rest new left : List Candidate) (best : Candidate) → n < 4 → best_of_all rest ≡ Some best →
    first_taken 4 all ≡ taken ++ first_taken (4 - n) rest → new ≡ taken ++ (best ∷ []) → more ≡ n + 1 → left ≡ filter (is_far best) rest →
    first_taken 4 all ≡ new ++ first_taken (4 - more) left
one_taken n more all taken rest new left best few e before now m l =
    let fewer : 4 - n - 1 ≡ 4 - more = omega (arith, m) in
    before
    ∙ ap (λ xs. taken ++ xs) (taken_more (4 - n) rest best (omega (arith, few)) e ∙ ap (λ k. best ∷ first_taken k (filter (is_far best) rest)) fewer)
    ∙ sym (append_assoc taken (best ∷ []) (first_taken (4 - more) (filter (is_far best) rest)))
    ∙ ap₂ (λ xs ys. xs ++ first_taken (4 - more) ys) (sym now) (sym l)

-- the loop's end: no candidate remains, or four are selected
pub all_taken : (n : ℕ) (all taken rest : List Candidate) → first_taken 4 all ≡ taken ++ first_taken (4 - n) rest → first_taken (4 - n) rest ≡ [] →
    taken ≡ first_taken 4 all
all_taken n all taken rest before none = sym (before ∙ ap (λ xs. taken ++ xs) none ∙ append-nil taken)

-- what holds for all candidates holds for the selected ones
pub taken_has : (P : Candidate → Type 0) (n : ℕ) (candidates : List Candidate) → All P candidates → All P (first_taken n candidates)
unfolding first_taken
taken_has P zero candidates h = λ k d l. absurd (omega (arith, l))
taken_has P (suc n) candidates h =
    settle (λ best. taken_has P n (filter (is_far best) candidates) (All-filter (is_far best) P candidates h)) (best_of_all candidates) refl
  where
    joined : (x : Candidate) (xs : List Candidate) → P x → All P xs → All P (x ∷ xs)
    joined x xs p q zero d l = p
    joined x xs p q (suc k) d l = q k d (omega (arith, l))

    settle : ((best : Candidate) → All P (first_taken n (filter (is_far best) candidates))) → (o : Option Candidate) → best_of_all candidates ≡ o → All P (option_map_or (λ best. best ∷ first_taken n (filter (is_far best) candidates)) o [])
    settle further None e = λ k d l. absurd (omega (arith, l))
    settle further (Some best) e = joined best _ (greatest_has P (λ (c : Candidate). c.fraction) candidates best h e) (further best)
