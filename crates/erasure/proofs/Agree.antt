-- Found bits depend only on the known bits, and the marks in the code agree with the definition.
use Rattle.std.proofs.Common.{◌≡◌, ℕ, zero, suc, ◌+◌, ◌*◌, ◌<◌, ◌≤◌, Bool, true, false, inl, inr, ◌⊎◌, List, ◌∷◌, length, get_or, take, replicate, refl, ap, ap₂, sym, subst, ◌∙◌, arith, add-one}
use Rattle.std.specs.Prelude.{◌&&◌, ◌||◌, not, nat_eq}
use Rattle.std.proofs.Math.Bool.{and-false, or-false}
use Rattle.std.proofs.lemmas.Bool.{cases_lt, cases_Bool, true≢false, and_from}
use Rattle.std.proofs.lemmas.List.{get_or-take, get_or-replicate}
use Rattle.finite.specs.Tests.{every_below}
use Rattle.finite.proofs.Tests.{any_below_at, any_below_all, any_below_same, every_below_at, every_below_all, every_below_same}
use Rattle.finite.proofs.Lists.{front_is, values_below_same}
use Rattle.trellis.specs.AllWords.{every_word}
use Rattle.turbo_code.specs.declared.rows.Row.{Row}
use Rattle.turbo_code.specs.Table.{IsAnyRow, interleaver, step_of}
use Rattle.turbo_code.specs.Encoder.{bit_at, parity, tail_x, tail_z}
use Rattle.turbo_code.proofs.Permutes.{all_permute}
use Rattle.turbo_code.proofs.TableFacts.{is_small}
use Rattle.cs_bits.specs.Checks.{has_check_24}
use Rattle.erasure.specs.Known.{Sent, step_shows, tail_shows, found, tail_sent, first_sent, second_sent, first_found, second_found, known_after, settled, settles_all, word_after, resolves, resolvable}
use Rattle.erasure.specs.Sets.{sent_by, found_by}
use Rattle.turbo_code.proofs.Orders.{read_at_step}

-- ---- tests of numbers

pub every_below_none : (p : ℕ → Bool) → every_below 0 p ≡ true
unfolding every_below
every_below_none p = refl

pub every_below_more : (n : ℕ) (p : ℕ → Bool) → every_below (n + 1) p ≡ (every_below n p && p n)
unfolding every_below
every_below_more n p = rw add-one refl

-- ---- words that pass the same tests

word_same : (n : ℕ) (p q : List Bool → Bool) → ((word : List Bool) → p word ≡ q word) → every_word n p ≡ every_word n q
unfolding every_word
word_same zero p q h = h _
word_same (suc n) p q h = ap₂ ◌&&◌ (word_same n (λ w. p (false ∷ w)) (λ w. q (false ∷ w)) (λ w. h (false ∷ w))) (word_same n (λ w. p (true ∷ w)) (λ w. q (true ∷ w)) (λ w. h (true ∷ w)))

pub found_same : (n : ℕ) (sent sent' : Sent) (known known' : ℕ → Bool) (k : ℕ) →
    ((j : ℕ) → j < n → (sent.information j || known j) ≡ (sent'.information j || known' j)) → ((j : ℕ) → j < n → sent.parity j ≡ sent'.parity j) →
    ((j : ℕ) → j < 6 → sent.tail j ≡ sent'.tail j) → found n sent known k ≡ found n sent' known' k
unfolding found
found_same n sent sent' known known' k own par tail =
    word_same n _ _ (λ word.
    ap (λ s. not (bit_at word k) || s)
    (ap₂ ◌||◌
    (any_below_same n (step_shows sent known k word) (step_shows sent' known' k word) (λ j l.
    ap₂ (λ o z. ((not (nat_eq j k) && bit_at word j) && o) || (parity word j && z)) (own j l) (par j l)))
    (any_below_same 3 (tail_shows sent word) (tail_shows sent' word) (λ j l.
    ap₂ (λ x z. (tail_x word j && x) || (tail_z word j && z)) (tail (2 * j) (omega (arith, l))) (tail (2 * j + 1) (omega (arith, l)))))))

-- ---- one decoder

-- marks in the code, of which the first n are read
by_marks : (n : ℕ) (sent : Sent) (known : ℕ → Bool) (own par own_marks par_marks tail tail' : List Bool) (k : ℕ) → length own ≡ n → own ≡ take n own_marks → par ≡ take n par_marks →
    ((j : ℕ) → j < n → get_or own_marks j false ≡ (sent.information j || known j)) → ((j : ℕ) → j < n → get_or par_marks j false ≡ sent.parity j) →
    tail ≡ tail' → sent.tail ≡ bit_at tail' → found_by own par tail k ≡ found n sent known k
by_marks n sent known own par own_marks par_marks tail tail' k size own_is par_is each each' tails same =
    ap (λ m. found m (sent_by own par tail) (λ _. false) k) size
    ∙ found_same n (sent_by own par tail) sent (λ _. false) known k
    (λ j l. or-false (bit_at own j) ∙ ap (λ xs. get_or xs j false) own_is ∙ get_or-take n own_marks j false l ∙ each j l)
    (λ j l. ap (λ xs. get_or xs j false) par_is ∙ get_or-take n par_marks j false l ∙ each' j l)
    (λ j l. ap (λ xs. bit_at xs j) tails ∙ sym (ap (λ f. f j) same))

pub first_by_marks : (row : Row) (sent : ℕ → ℕ → Bool) (known : ℕ → Bool) (own par own_marks par_marks tail : List Bool) (k : ℕ) →
    length own ≡ row.k → own ≡ take row.k own_marks → par ≡ take row.k par_marks →
    ((j : ℕ) → j < row.k → get_or own_marks j false ≡ (sent 0 j || known j)) → ((j : ℕ) → j < row.k → get_or par_marks j false ≡ sent 1 j) →
    tail ≡ tail_sent sent row.k → found_by own par tail k ≡ first_found row sent known k
first_by_marks row sent known own par own_marks par_marks tail k size own_is par_is each each' tails =
    by_marks row.k (first_sent row sent) known own par own_marks par_marks tail (tail_sent sent row.k) k size own_is par_is each each' tails refl

pub second_by_marks : (row : Row) (sent : ℕ → ℕ → Bool) (known : ℕ → Bool) (own par own_marks par_marks tail : List Bool) (k : ℕ) →
    length own ≡ row.k → own ≡ take row.k own_marks → par ≡ take row.k par_marks →
    ((j : ℕ) → j < row.k → get_or own_marks j false ≡ (sent 0 (interleaver row j) || known (interleaver row j))) → ((j : ℕ) → j < row.k → get_or par_marks j false ≡ sent 2 j) →
    tail ≡ tail_sent sent (row.k + 2) → found_by own par tail (step_of row k) ≡ second_found row sent known k
second_by_marks row sent known own par own_marks par_marks tail k size own_is par_is each each' tails =
    by_marks row.k (second_sent row sent) (λ i. known (interleaver row i)) own par own_marks par_marks tail (tail_sent sent (row.k + 2)) (step_of row k) size own_is par_is each each' tails refl

-- marks that are placed in word order
pub placed_all : (row : Row) (values found : List Bool) (i k : ℕ) → IsAnyRow row → row.k ≤ i → ((j : ℕ) → j < i → get_or found (interleaver row j) false ≡ get_or values j false) →
    k < row.k → get_or found k false ≡ get_or values (step_of row k) false
placed_all row values found i k is_row past each inside =
    let read = read_at_step row k is_row inside in
    let below = read.below in
    subst (λ m. get_or found m false ≡ get_or values (step_of row k) false) read.there (each (step_of row k) (omega (arith, past, below)))

-- ---- the iterations

module _ (row : Row) (is_row : IsAnyRow row) (sent : ℕ → ℕ → Bool) where
  first_same : (sent' : ℕ → ℕ → Bool) (known known' : ℕ → Bool) (k : ℕ) → ((t p : ℕ) → t < 3 → p < row.k + 4 → sent t p ≡ sent' t p) → ((j : ℕ) → j < row.k → known j ≡ known' j) →
      first_found row sent known k ≡ first_found row sent' known' k
  first_same sent' known known' k same h =
      found_same row.k (first_sent row sent) (first_sent row sent') known known' k
      (λ j l. ap₂ ◌||◌ (same 0 j (omega arith) (omega (arith, l))) (h j l))
      (λ j l. same 1 j (omega arith) (omega (arith, l)))
      (λ j l. tail_same sent' row.k j same (omega arith) l)
    where
      tail_same : (sent' : ℕ → ℕ → Bool) (p j : ℕ) → ((t q : ℕ) → t < 3 → q < row.k + 4 → sent t q ≡ sent' t q) → p + 1 < row.k + 4 → j < 6 → bit_at (tail_sent sent p) j ≡ bit_at (tail_sent sent' p) j
      tail_same sent' p zero same l m = same 0 p (omega arith) (omega (arith, l))
      tail_same sent' p (suc zero) same l m = same 1 p (omega arith) (omega (arith, l))
      tail_same sent' p (suc (suc zero)) same l m = same 2 p (omega arith) (omega (arith, l))
      tail_same sent' p (suc (suc (suc zero))) same l m = same 0 (p + 1) (omega arith) (omega (arith, l))
      tail_same sent' p (suc (suc (suc (suc zero)))) same l m = same 1 (p + 1) (omega arith) (omega (arith, l))
      tail_same sent' p (suc (suc (suc (suc (suc zero))))) same l m = same 2 (p + 1) (omega arith) (omega (arith, l))
      tail_same sent' p (suc (suc (suc (suc (suc (suc j)))))) same l m = absurd (omega (arith, m))

  second_same : (sent' : ℕ → ℕ → Bool) (known known' : ℕ → Bool) (k : ℕ) → ((t p : ℕ) → t < 3 → p < row.k + 4 → sent t p ≡ sent' t p) → ((j : ℕ) → j < row.k → known j ≡ known' j) →
      second_found row sent known k ≡ second_found row sent' known' k
  second_same sent' known known' k same h =
      found_same row.k (second_sent row sent) (second_sent row sent') (λ i. known (interleaver row i)) (λ i. known' (interleaver row i)) (step_of row k)
      (λ j l.
      let there = (all_permute row is_row).below j l in
      ap₂ ◌||◌ (same 0 (interleaver row j) (omega arith) (omega (arith, there))) (h (interleaver row j) there))
      (λ j l. same 2 j (omega arith) (omega (arith, l)))
      (λ j l. tail_same sent' (row.k + 2) j same (omega arith) l)
    where
      tail_same : (sent' : ℕ → ℕ → Bool) (p j : ℕ) → ((t q : ℕ) → t < 3 → q < row.k + 4 → sent t q ≡ sent' t q) → p + 1 < row.k + 4 → j < 6 → bit_at (tail_sent sent p) j ≡ bit_at (tail_sent sent' p) j
      tail_same sent' p zero same l m = same 0 p (omega arith) (omega (arith, l))
      tail_same sent' p (suc zero) same l m = same 1 p (omega arith) (omega (arith, l))
      tail_same sent' p (suc (suc zero)) same l m = same 2 p (omega arith) (omega (arith, l))
      tail_same sent' p (suc (suc (suc zero))) same l m = same 0 (p + 1) (omega arith) (omega (arith, l))
      tail_same sent' p (suc (suc (suc (suc zero)))) same l m = same 1 (p + 1) (omega arith) (omega (arith, l))
      tail_same sent' p (suc (suc (suc (suc (suc zero))))) same l m = same 2 (p + 1) (omega arith) (omega (arith, l))
      tail_same sent' p (suc (suc (suc (suc (suc (suc j)))))) same l m = absurd (omega (arith, m))

  known_same : (sent' : ℕ → ℕ → Bool) → ((t p : ℕ) → t < 3 → p < row.k + 4 → sent t p ≡ sent' t p) → (n k : ℕ) → k < row.k → known_after row sent n k ≡ known_after row sent' n k
  unfolding known_after
  known_same sent' same zero k inside = refl
  known_same sent' same (suc n) k inside =
      second_same sent' (first_found row sent (known_after row sent n)) (first_found row sent' (known_after row sent' n)) k same
      (λ j l. first_same sent' (known_after row sent n) (known_after row sent' n) j same (known_same sent' same n))

  settled_same : (sent' : ℕ → ℕ → Bool) → ((t p : ℕ) → t < 3 → p < row.k + 4 → sent t p ≡ sent' t p) → (n k : ℕ) → k < row.k → settled row sent n k ≡ settled row sent' n k
  settled_same sent' same n k inside =
      ap₂ ◌||◌ (ap₂ ◌||◌ (same 0 k (omega arith) (omega (arith, inside))) (first_same sent' (known_after row sent n) (known_after row sent' n) k same (known_same sent' same n)))
      (known_same sent' same (suc n) k inside)

  pub resolvable_same : (sent' : ℕ → ℕ → Bool) (word : List Bool) → ((t p : ℕ) → t < 3 → p < row.k + 4 → sent t p ≡ sent' t p) → resolvable row sent word ≡ resolvable row sent' word
  unfolding resolvable
  resolvable_same sent' word same =
      any_below_same 8 _ _ (λ n l. ap₂ ◌&&◌ (filled n) (every_below_same n _ _ (λ m below.
      ap₂ (λ f w. not f && not (has_check_24 w)) (filled m) (values_below_same row.k _ _ (λ k inside. ap (λ s. bit_at word k && s) (settled_same sent' same m k inside))))))
    where
      filled : (n : ℕ) → settles_all row sent n ≡ settles_all row sent' n
      filled n = every_below_same row.k (settled row sent n) (settled row sent' n) (settled_same sent' same n)

-- ---- the loop over the iterations

-- after n iterations of the code, none of which returned
pub record IsAfter (row : Row) (sent : ℕ → ℕ → Bool) (word known : List Bool) (n : ℕ) : Type 0 where
  pub marks : (k : ℕ) → k < row.k → get_or known k false ≡ known_after row sent n k
  pub unfilled : (m : ℕ) → m < n → settles_all row sent m ≡ false
  pub unchecked : (m : ℕ) → m < n → has_check_24 (word_after row sent word m) ≡ false

pub after_none : (row : Row) (sent : ℕ → ℕ → Bool) (word : List Bool) → IsAnyRow row → IsAfter row sent word (replicate 1024 false) 0
unfolding known_after
after_none row sent word is_row = record {
  marks = λ k inside. let high = (is_small row is_row).high in get_or-replicate 1024 k false false (omega (arith, inside, high));
  unfilled = λ m below. absurd (omega (arith, below));
  unchecked = λ m below. absurd (omega (arith, below));
}

-- the marks of one iteration
pub record IsIteration (row : Row) (sent : ℕ → ℕ → Bool) (n : ℕ) (second all : List Bool) : Type 0 where
  pub seconds : (k : ℕ) → k < row.k → get_or second k false ≡ known_after row sent (suc n) k
  pub settles : (k : ℕ) → k < row.k → get_or all k false ≡ settled row sent n k

pub iterated : (row : Row) (sent : ℕ → ℕ → Bool) (word known first second all : List Bool) (n : ℕ) → IsAnyRow row → IsAfter row sent word known n →
    ((k : ℕ) → k < row.k → get_or first k false ≡ first_found row sent (bit_at known) k) →
    ((k : ℕ) → k < row.k → get_or second k false ≡ second_found row sent (bit_at first) k) →
    ((k : ℕ) → k < row.k → get_or all k false ≡ ((sent 0 k || get_or first k false) || get_or second k false)) →
    IsIteration row sent n second all
unfolding known_after
iterated row sent word known first second all n is_row so_far firsts seconds alls = record {
  seconds = second_is;
  settles = λ k inside. alls k inside ∙ ap₂ (λ a b. (sent 0 k || a) || b) (first_is k inside) (second_is k inside);
}
  where
    first_is : (k : ℕ) → k < row.k → get_or first k false ≡ first_found row sent (known_after row sent n) k
    first_is k inside = firsts k inside ∙ first_same row is_row sent sent (bit_at known) (known_after row sent n) k (λ t p l m. refl) so_far.marks

    second_is : (k : ℕ) → k < row.k → get_or second k false ≡ known_after row sent (suc n) k
    second_is k inside = seconds k inside ∙ second_same row is_row sent sent (bit_at first) (first_found row sent (known_after row sent n)) k (λ t p l m. refl) first_is

-- whether all bits are settled, and the word
pub filled_is : (row : Row) (sent : ℕ → ℕ → Bool) (n : ℕ) (second all front : List Bool) → IsIteration row sent n second all → length front ≡ row.k → front ≡ take row.k all →
    every_below (length front) (bit_at front) ≡ settles_all row sent n
filled_is row sent n second all front now size is =
    ap (λ m. every_below m (bit_at front)) size
    ∙ every_below_same row.k (bit_at front) (settled row sent n) (λ k inside. ap (λ xs. get_or xs k false) is ∙ get_or-take row.k all k false inside ∙ now.settles k inside)

pub decoded_is : (row : Row) (sent : ℕ → ℕ → Bool) (word : List Bool) (n : ℕ) (second all decoded front : List Bool) → IsAnyRow row → length word ≡ row.k → IsIteration row sent n second all → length decoded ≡ 1024 →
    ((k : ℕ) → k < length word → get_or decoded k false ≡ (bit_at word k && get_or all k false)) → front ≡ take row.k decoded → front ≡ word_after row sent word n
decoded_is row sent word n second all decoded front is_row size now long each is =
    let high = (is_small row is_row).high in
    is ∙ front_is false row.k (λ k. bit_at word k && settled row sent n k) decoded (omega (arith, high, long))
    (λ k inside. each k (omega (arith, inside, size)) ∙ ap (λ s. bit_at word k && s) (now.settles k inside))

pub after_more : (row : Row) (sent : ℕ → ℕ → Bool) (word known second all : List Bool) (n : ℕ) → IsAfter row sent word known n → IsIteration row sent n second all →
    settles_all row sent n ≡ false → has_check_24 (word_after row sent word n) ≡ false → IsAfter row sent word second (n + 1)
after_more row sent word known second all n so_far now unfilled unchecked =
    let e : suc n ≡ n + 1 = omega arith in
    record {
      marks = λ k inside. subst (λ m. get_or second k false ≡ known_after row sent m k) e (now.seconds k inside);
      unfilled = λ m below. elim (cases_lt m n) [
        | inl lower ↦ so_far.unfilled m lower
        | inr here ↦ let is : m ≡ n = omega (arith, here, below) in rw is unfilled
      ];
      unchecked = λ m below. elim (cases_lt m n) [
        | inl lower ↦ so_far.unchecked m lower
        | inr here ↦ let is : m ≡ n = omega (arith, here, below) in rw is unchecked
      ];
    }

pub resolved : (row : Row) (sent : ℕ → ℕ → Bool) (word known : List Bool) (n : ℕ) → n < 8 → IsAfter row sent word known n → settles_all row sent n ≡ true → true ≡ resolvable row sent word
unfolding resolvable
resolved row sent word known n below so_far full =
    sym (any_below_at 8 n (resolves row sent word) below
    (and_from (settles_all row sent n) _ full
    (every_below_all n _ (λ m l. ap₂ (λ f p. not f && not p) (so_far.unfilled m l) (so_far.unchecked m l)))))

pub unresolved : (row : Row) (sent : ℕ → ℕ → Bool) (word known : List Bool) (n : ℕ) → IsAfter row sent word known n → settles_all row sent n ≡ false → has_check_24 (word_after row sent word n) ≡ true →
    false ≡ resolvable row sent word
unfolding resolvable
unresolved row sent word known n so_far unfilled checked =
    sym (any_below_all 8 (resolves row sent word) (λ m below. fails m (cases_lt m n) (cases_lt n m)))
  where
    failed : (m : ℕ) (p : ℕ → Bool) → n < m → p n ≡ false → every_below m p ≡ false
    failed m p below e = elim (cases_Bool (every_below m p)) [
      | inl t ↦ absurd (true≢false (sym (every_below_at m p t n below) ∙ e))
      | inr f ↦ f
    ]

    fails : (m : ℕ) → (m < n) ⊎ (n ≤ m) → (n < m) ⊎ (m ≤ n) → resolves row sent word m ≡ false
    fails m (inl lower) h = ap (λ f. f && every_below m (λ j. not (settles_all row sent j) && not (has_check_24 (word_after row sent word j)))) (so_far.unfilled m lower)
    fails m (inr past) (inl later) =
        ap (λ e. settles_all row sent m && e) (failed m (λ j. not (settles_all row sent j) && not (has_check_24 (word_after row sent word j))) later (ap₂ (λ f p. not f && not p) unfilled checked))
        ∙ and-false (settles_all row sent m)
    fails m (inr past) (inr here) =
        let is : m ≡ n = omega (arith, past, here) in
        ap (λ f. f && every_below m (λ j. not (settles_all row sent j) && not (has_check_24 (word_after row sent word j)))) (ap (settles_all row sent) is ∙ unfilled)

pub never_resolved : (row : Row) (sent : ℕ → ℕ → Bool) (word known : List Bool) (n : ℕ) → 8 ≤ n → IsAfter row sent word known n → false ≡ resolvable row sent word
unfolding resolvable
never_resolved row sent word known n past so_far =
    sym (any_below_all 8 (resolves row sent word) (λ m below.
    ap (λ f. f && every_below m (λ j. not (settles_all row sent j) && not (has_check_24 (word_after row sent word j)))) (so_far.unfilled m (omega (arith, below, past)))))
