-- Partially changed samples, step by step.
use Rattle.std.proofs.Common.{◌≡◌, ℕ, ◌+◌, ◌<◌, ◌≤◌, ◌⊎◌, inl, inr, Bool, true, false, nat_le, nat_lt, List, slice_index_or, arith, refl, sym, subst, ap, ◌∙◌, length, set, get_or-set_same, get_or-set_other}
use Rattle.std.specs.Prelude.{◌&&◌, ◌||◌, if◌then◌else◌}
use Rattle.std.proofs.lemmas.Bool.{cases_lt, and_parts, and_right, ltb-true, leb-true, true≢false}
use Rattle.std.proofs.lemmas.Bool.Decides.{nat_tests}
use Rattle.cs_num.specs.declared.Cpx.{Cpx}
use Rattle.cs_num.specs.declared.Sample.{Sample}
use Rattle.cs_num.specs.Complex.{IsWithin, silence, plus, times, value_of}
use Rattle.cell_tx.specs.Emitting.{is_between, AreChanged, FitSamples}

-- ---- indices

pub between : (first last i : ℕ) → first ≤ i → i < last → is_between first last i ≡ true
between first last i low high = grind (arith, nat_tests)

pub before : (first last i : ℕ) → i < first → is_between first last i ≡ false
before first last i low = let e : nat_le first i ≡ false = grind (arith, nat_tests) in rw e refl

pub after : (first last i : ℕ) → last ≤ i → is_between first last i ≡ false
after first last i high = let e : nat_lt i last ≡ false = grind (arith, nat_tests) in and_right (nat_le first i) (nat_lt i last) e

pub is_from : (first last i : ℕ) → is_between first last i ≡ true → first ≤ i
is_from first last i e = leb-true first i (and_parts (nat_le first i) (nat_lt i last) e).0

pub is_below : (first last i : ℕ) → is_between first last i ≡ true → i < last
is_below first last i e = ltb-true i last (and_parts (nat_le first i) (nat_lt i last) e).1

-- an index outside a range is below or above it
pub outside : (first last i : ℕ) → is_between first last i ≡ false → (i < first) ⊎ (last ≤ i)
outside first last i e = elim (cases_lt i first) [
  | inl low ↦ inl low
  | inr from ↦ elim (cases_lt i last) [
    | inl high ↦ absurd (true≢false (sym (between first last i from high) ∙ e))
    | inr past ↦ inr past
  ]
]

-- ---- facts about one index

module _ (p : ℕ → Bool) (change : ℕ → Sample → Sample) (old new : List Sample) (is : AreChanged p change old new) (i : ℕ) (inside : i < 19200) where
  pub changed_there : p i ≡ true → slice_index_or new i silence ≡ change i (slice_index_or old i silence)
  changed_there e = is i inside ∙ rw e refl

  pub kept_there : p i ≡ false → slice_index_or new i silence ≡ slice_index_or old i silence
  kept_there e = is i inside ∙ rw e refl

-- ---- steps

-- the range of changed samples, extended by one
pub set_changed : (change : ℕ → Sample → Sample) (first i : ℕ) (old xs : List Sample) (v : Sample) → i < length xs → first ≤ i → v ≡ change i (slice_index_or xs i silence)
    → AreChanged (is_between first i) change old xs → i < 19200 → AreChanged (is_between first (i + 1)) change old (set xs i v)
set_changed change first i old xs v long low is before_it fits j inside = settle (cases_lt j i)
  where
    Goal : Type 0
    Goal = slice_index_or (set xs i v) j silence ≡ (if is_between first (i + 1) j then change j (slice_index_or old j silence) else slice_index_or old j silence)

    later : (j < i + 1) ⊎ (i + 1 ≤ j) → i ≤ j → Goal
    later (inl next) high =
        let e : j ≡ i = omega (arith, next, high) in
        let t : is_between first (i + 1) i ≡ true = between first (i + 1) i low (omega arith) in
        let same = kept_there (is_between first i) change old xs before_it i fits (after first i i (omega arith)) in
        rw (e, t) (get_or-set_same xs i v silence long ∙ is ∙ ap (change i) same)
    later (inr past) high =
        let t = after first (i + 1) j past in
        rw t (get_or-set_other xs i j v silence (λ e. absurd (omega (arith, e, past))) ∙ kept_there (is_between first i) change old xs before_it j inside (after first i j high))

    settle : (j < i) ⊎ (i ≤ j) → Goal
    settle (inl early) =
        let e : nat_lt j (i + 1) ≡ nat_lt j i = grind (arith, nat_tests) in
        rw e (get_or-set_other xs i j v silence (λ e. absurd (omega (arith, e, early))) ∙ before_it j inside)
    settle (inr high) = later (cases_lt j (i + 1)) high

-- a change at the same indices, stated by an equivalent test
pub changed_same : (p q : ℕ → Bool) (change : ℕ → Sample → Sample) (old new : List Sample) → ((i : ℕ) → p i ≡ q i) → AreChanged p change old new → AreChanged q change old new
changed_same p q change old new same is i inside =
    subst (λ (b : Bool). slice_index_or new i silence ≡ (if b then change i (slice_index_or old i silence) else slice_index_or old i silence)) (same i) (is i inside)

-- changes at two disjoint sets of indices combine
pub changed_both : (p q : ℕ → Bool) (change : ℕ → Sample → Sample) (old mid new : List Sample) → ((i : ℕ) → p i ≡ true → q i ≡ false)
    → AreChanged p change old mid → AreChanged q change mid new → AreChanged (λ i. p i || q i) change old new
changed_both p q change old mid new apart first second i inside = settle (p i) refl
  where
    settle : (b : Bool) → p i ≡ b → slice_index_or new i silence ≡ (if p i || q i then change i (slice_index_or old i silence) else slice_index_or old i silence)
    settle true e = rw e (kept_there q change mid new second i inside (apart i e) ∙ changed_there p change old mid first i inside e)
    settle false e =
        let same = kept_there p change old mid first i inside e in
        rw e (subst (λ (s : Sample). slice_index_or new i silence ≡ (if q i then change i s else s)) same (second i inside))

-- changes in two adjacent ranges combine
pub changed_on : (change : ℕ → Sample → Sample) (a b d : ℕ) (old mid new : List Sample) → a ≤ b → b ≤ d
    → AreChanged (is_between a b) change old mid → AreChanged (is_between b d) change mid new → AreChanged (is_between a d) change old new
changed_on change a b d old mid new low high first second =
    changed_same (λ i. is_between a b i || is_between b d i) (is_between a d) change old new same
    (changed_both (is_between a b) (is_between b d) change old mid new (λ i e. before b d i (is_below a b i e)) first second)
  where
    same : (i : ℕ) → (is_between a b i || is_between b d i) ≡ is_between a d i
    same i = elim (cases_lt i b) [
      | inl early ↦
          let e : nat_lt i b ≡ true = grind (arith, nat_tests) in
          let f : nat_lt i d ≡ true = grind (arith, nat_tests) in
          let g = before b d i early in
          rw (g, e, f) (by (nat_le a i))
      | inr late ↦
          let e = after a b i late in
          let f : nat_le b i ≡ true = grind (arith, nat_tests) in
          let g : nat_le a i ≡ true = grind (arith, nat_tests) in
          rw (e, f, g) refl
    ]
      where
        by : (x : Bool) → ((x && true) || false) ≡ (x && true)
        by true = refl
        by false = refl

-- two changes at the same indices compose
pub changed_twice : (p : ℕ → Bool) (f g : ℕ → Sample → Sample) (old mid new : List Sample) → AreChanged p f old mid → AreChanged p g mid new → AreChanged p (λ i s. g i (f i s)) old new
changed_twice p f g old mid new first second i inside = settle (p i) refl
  where
    settle : (b : Bool) → p i ≡ b → slice_index_or new i silence ≡ (if p i then g i (f i (slice_index_or old i silence)) else slice_index_or old i silence)
    settle true e = rw e (changed_there p g mid new second i inside e ∙ ap (g i) (changed_there p f old mid first i inside e))
    settle false e = rw e (kept_there p g mid new second i inside e ∙ kept_there p f old mid first i inside e)

-- changes with equal results are interchangeable
pub changed_alike : (p : ℕ → Bool) (f g : ℕ → Sample → Sample) (old new : List Sample)
    → ((i : ℕ) → i < 19200 → p i ≡ true → f i (slice_index_or old i silence) ≡ g i (slice_index_or old i silence)) → AreChanged p f old new → AreChanged p g old new
changed_alike p f g old new alike is i inside = settle (p i) refl
  where
    settle : (b : Bool) → p i ≡ b → slice_index_or new i silence ≡ (if p i then g i (slice_index_or old i silence) else slice_index_or old i silence)
    settle true e = rw e (changed_there p f old new is i inside e ∙ alike i inside e)
    settle false e = rw e (kept_there p f old new is i inside e)

-- ---- headroom for sums

-- changes elsewhere leave the same headroom
pub room_left : (p q r : ℕ → Bool) (change : ℕ → Sample → Sample) (gain : Cpx) (values : ℕ → Cpx) (old new : List Sample)
    → ((i : ℕ) → r i ≡ true → p i ≡ true) → ((i : ℕ) → r i ≡ true → q i ≡ false)
    → FitSamples p gain values old → AreChanged q change old new → FitSamples r gain values new
room_left p q r change gain values old new there apart room is i inside e =
    subst (λ (s : Sample). IsWithin 32767 (plus (value_of s) (times gain (values i)))) (sym (kept_there q change old new is i inside (apart i e))) (room i inside (there i e))
