-- The list of hits, position by position: its steps, and its room for 5,760.
use Rattle.std.proofs.Common.{◌≡◌, ℕ, zero, suc, ◌+◌, ◌<◌, ◌≤◌, arith, refl, ap, sym, subst, ◌∙◌, Bool, true, false, List, [], ◌∷◌, ◌++◌, length, length-append, append-nil, append_assoc}
use Rattle.std.specs.Prelude.{if◌then◌else◌}
use Rattle.cs_num.specs.declared.Sample.{Sample}
use Rattle.lte_types.specs.declared.Hit.{Hit}
use Rattle.finite.specs.Sums.{total_below}
use Rattle.finite.proofs.Counts.{count_below}
use Rattle.finite.specs.Lists.{joined_below}
use Rattle.finite.proofs.Lists.{joined_below_more}
use Rattle.finite.proofs.Counts.{count_below_more}
use Rattle.finite.proofs.Sums.{total_below_none}
use Rattle.pss_search.specs.Tests.{is_hit}
use Rattle.pss_search.specs.Hits.{found, hit_at, hits_at, hits_before}
use Rattle.pss_search.specs.Steps.{so_far}
use Rattle.pss_search.specs.Laws.{ListIsShort}
use Rattle.pss_search.proofs.Sparse.{IsSparse, count_more_yes, count_within}
use Rattle.pss_search.proofs.Window.{hits_sparse}

-- a position in the span is a hit with the root
abbrev pub passes : List Sample → ℕ → ℕ → Bool
passes recording n2 i = is_hit recording (137 + i) n2

passes_sparse : (recording : List Sample) (n2 : ℕ) → IsSparse (passes recording n2)
passes_sparse recording n2 i j below p q = omega (arith, hits_sparse recording n2 (137 + i) (137 + j) (omega arith) (omega arith) p q)

count_at_most : (recording : List Sample) (n2 n : ℕ) → n ≤ 19200 → count_below n (passes recording n2) ≤ 1920
count_at_most recording n2 n h = omega (arith, count_within (passes recording n2) (passes_sparse recording n2) n n (omega arith))

count_more : (recording : List Sample) (n2 i : ℕ) → count_below (i + 1) (passes recording n2) ≡ count_below i (passes recording n2) + (if passes recording n2 i then 1 else 0)
count_more recording n2 i = count_below_more i (passes recording n2)

one_or_none : {A : Type 0} (b : Bool) (x : A) → length (if b then x ∷ [] else []) ≡ (if b then 1 else 0)
one_or_none true x = refl
one_or_none false x = refl

hit_length : (recording : List Sample) (t n2 : ℕ) → length (hit_at recording t n2) ≡ (if is_hit recording t n2 then 1 else 0)
unfolding hit_at
hit_length recording t n2 = one_or_none (is_hit recording t n2) (found recording t n2)

abbrev pub counted : List Sample → ℕ → ℕ
counted recording i = count_below i (passes recording 0) + count_below i (passes recording 1) + count_below i (passes recording 2)

so_far_length : (recording : List Sample) (i n2 : ℕ) → length (so_far recording i n2) ≡ length (hits_before recording i) + total_below n2 (λ k. if is_hit recording (137 + i) k then 1 else 0)
unfolding joined_below total_below
so_far_length recording i zero = omega (arith, length-append (hits_before recording i) [])
so_far_length recording i (suc n2) =
    omega (
      arith,
      so_far_length recording i n2,
      hit_length recording (137 + i) n2,
      length-append (hits_before recording i) (joined_below n2 (hit_at recording (137 + i)) ++ hit_at recording (137 + i) n2),
      length-append (hits_before recording i) (joined_below n2 (hit_at recording (137 + i))),
      length-append (joined_below n2 (hit_at recording (137 + i))) (hit_at recording (137 + i) n2),
    )

-- one more position
pub hits_before_more : (recording : List Sample) (i : ℕ) → hits_before recording (i + 1) ≡ so_far recording i 3
unfolding hits_before hits_at
hits_before_more recording i = joined_below_more i (λ k. joined_below 3 (hit_at recording (137 + k)))

one_of : (f : ℕ → ℕ) → total_below 1 f ≡ f 0
unfolding total_below
one_of f = omega arith

two_of : (f : ℕ → ℕ) → total_below 2 f ≡ f 0 + f 1
unfolding total_below
two_of f = omega arith

three_of : (f : ℕ → ℕ) → total_below 3 f ≡ f 0 + f 1 + f 2
unfolding total_below
three_of f = omega arith

none_before : (recording : List Sample) → length (hits_before recording 0) ≡ counted recording 0
unfolding hits_before joined_below count_below
none_before recording = refl

length_step : (recording : List Sample) (i : ℕ) → length (hits_before recording i) ≡ counted recording i → length (hits_before recording (i + 1)) ≡ counted recording (i + 1)
length_step recording i before =
    omega (
      arith,
      before,
      ap length (hits_before_more recording i),
      so_far_length recording i 3,
      three_of (λ k. if is_hit recording (137 + i) k then 1 else 0),
      count_more recording 0 i,
      count_more recording 1 i,
      count_more recording 2 i,
    )

hits_length : (recording : List Sample) (i : ℕ) → length (hits_before recording i) ≡ counted recording i
hits_length recording zero = none_before recording
hits_length recording (suc i) =
    let e : i + 1 ≡ suc i = omega arith in
    subst (λ n. length (hits_before recording n) ≡ counted recording n) e (length_step recording i (hits_length recording i))

-- the complete list has room
pub list_is_short : ListIsShort
list_is_short recording =
    omega (
      arith,
      hits_length recording 19200,
      count_at_most recording 0 19200 (omega arith),
      count_at_most recording 1 19200 (omega arith),
      count_at_most recording 2 19200 (omega arith),
    )

-- one more hit has room
pub room : (recording : List Sample) (i n2 : ℕ) → i < 19200 → n2 < 3 → is_hit recording (137 + i) n2 ≡ true → length (so_far recording i n2) < 5760
room recording i zero l r e =
    omega (
      arith,
      so_far_length recording i 0,
      total_below_none (λ k. if is_hit recording (137 + i) k then 1 else 0),
      hits_length recording i,
      count_more_yes i (passes recording 0) e,
      count_at_most recording 0 (i + 1) (omega arith),
      count_at_most recording 1 i (omega arith),
      count_at_most recording 2 i (omega arith),
    )
room recording i (suc zero) l r e =
    omega (
      arith,
      so_far_length recording i 1,
      one_of (λ k. if is_hit recording (137 + i) k then 1 else 0),
      hits_length recording i,
      count_more recording 0 i,
      count_more_yes i (passes recording 1) e,
      count_at_most recording 0 (i + 1) (omega arith),
      count_at_most recording 1 (i + 1) (omega arith),
      count_at_most recording 2 i (omega arith),
    )
room recording i (suc (suc zero)) l r e =
    omega (
      arith,
      so_far_length recording i 2,
      two_of (λ k. if is_hit recording (137 + i) k then 1 else 0),
      hits_length recording i,
      count_more recording 0 i,
      count_more recording 1 i,
      count_more_yes i (passes recording 2) e,
      count_at_most recording 0 (i + 1) (omega arith),
      count_at_most recording 1 (i + 1) (omega arith),
      count_at_most recording 2 (i + 1) (omega arith),
    )
room recording i (suc (suc (suc n2))) l r e = absurd (omega arith)

-- ---- the steps of the list

pub so_far_none : (recording : List Sample) (i : ℕ) → so_far recording i 0 ≡ hits_before recording i
unfolding joined_below
so_far_none recording i = append-nil (hits_before recording i)

pub so_far_more : (recording : List Sample) (i n2 : ℕ) → so_far recording i (n2 + 1) ≡ so_far recording i n2 ++ hit_at recording (137 + i) n2
so_far_more recording i n2 =
    ap (λ hits. hits_before recording i ++ hits) (joined_below_more n2 (hit_at recording (137 + i)))
    ∙ sym (append_assoc (hits_before recording i) (joined_below n2 (hit_at recording (137 + i))) (hit_at recording (137 + i) n2))

pub hits_before_none : (recording : List Sample) → hits_before recording 0 ≡ []
unfolding hits_before joined_below
hits_before_none recording = refl

-- a list with one hit means that the test passes
pub one_is_hit : (recording : List Sample) (t n2 : ℕ) (hit : Hit) → hit ∷ [] ≡ hit_at recording t n2 → is_hit recording t n2 ≡ true
unfolding hit_at
one_is_hit recording t n2 hit e = settle (is_hit recording t n2) refl
  where
    settle : (b : Bool) → is_hit recording t n2 ≡ b → is_hit recording t n2 ≡ true
    settle true h = h
    settle false h = let bad : hit ∷ [] ≡ [] = e ∙ rw h refl in cc
