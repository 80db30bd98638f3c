-- How many patterns of signs match given ones: Pascal's recursion, and its row of 124.
use Rattle.std.proofs.Common.{◌≡◌, ℕ, zero, suc, ◌+◌, ◌-◌, ◌^◌, ◌<◌, ◌≤◌, ◌∷◌, List, [], map, length, length-append, Bool, true, false, cond, nat_le, ℤ, pos, negsuc, nat_abs, int_eq, count_by, sum_by, get_or, replicate, arith, refl, ap, ap₂, sym, subst, ◌∙◌}
use Rattle.std.proofs.lemmas.Int.{ints}
use Rattle.std.proofs.lemmas.Bool.Decides.{nat_tests, Decides-int_eq}
use Rattle.std.proofs.lemmas.List.{length-map}
use Rattle.std.proofs.lemmas.List.Sums.{sum_by-cons, sum_by-append}
use Rattle.finite.specs.Sums.{total_below}
use Rattle.finite.proofs.Sums.{total_below_split, total_below_same}
use Rattle.accumulated_sss.specs.Signs.{matches}
use Rattle.accumulated_sss.specs.Patterns.{all_patterns, coincidences, sign_of, AreSigns}
use Rattle.accumulated_sss.specs.Laws.{PatternsAreAll, CoincidencesAreCounted, CoincidencesAreFew, CoincidencesAreRare}

-- ---- all patterns

doubled : (a b n : ℕ) → a ≡ 2 ^ n → b ≡ 2 ^ n → a + b ≡ 2 ^ suc n
doubled a b n e g = omega (arith, e, g)

pub patterns_are_all : PatternsAreAll
unfolding all_patterns
patterns_are_all zero = refl
patterns_are_all (suc n) =
    let before = patterns_are_all n in
    length-append (map (λ pattern. pos 1 ∷ pattern) (all_patterns n)) (map (λ pattern. negsuc 0 ∷ pattern) (all_patterns n))
    ∙ doubled _ _ n (length-map (all_patterns n) (λ pattern. pos 1 ∷ pattern) ∙ before) (length-map (all_patterns n) (λ pattern. negsuc 0 ∷ pattern) ∙ before)

-- ---- one sign more

sum_by-map : {X Y : Type 0} (f : Y → ℕ) (g : X → Y) (xs : List X) → sum_by f (map g xs) ≡ sum_by (λ x. f (g x)) xs
sum_by-map f g [] = refl
sum_by-map f g (x ∷ xs) = sum_by-cons f (g x) (map g xs) ∙ ap (λ n. f (g x) + n) (sum_by-map f g xs) ∙ sym (sum_by-cons (λ y. f (g y)) x xs)

total_one : (f : ℕ → ℕ) → total_below 1 f ≡ f 0
unfolding total_below
total_one f = omega arith

-- the first sign counts 1 if it matches
matches_cons : (n : ℕ) (s : ℤ) (p : List ℤ) (signs : ℕ → ℤ) →
    matches (suc n) (sign_of (s ∷ p)) signs ≡ cond (int_eq s (signs 0)) 1 0 + matches n (sign_of p) (λ i. signs (suc i))
unfolding matches
matches_cons n s p signs =
    let e : suc n ≡ 1 + n = omega arith in
    ap (λ m. total_below m f) e ∙ total_below_split 1 n f
    ∙ ap₂ ◌+◌ (total_one f) (total_below_same n (λ k. f (1 + k)) (λ k. f (suc k)) (λ k l. let g : 1 + k ≡ suc k = omega arith in ap f g))
  where
    f : ℕ → ℕ
    f i = cond (int_eq (sign_of (s ∷ p) i) (signs i)) 1 0

-- the matches that are still missing after one sign
unfoldable lowered : Bool → ℕ → ℕ
lowered true m = m - 1
lowered false m = m

le_lowered : (b : Bool) (m x : ℕ) → nat_le m (cond b 1 0 + x) ≡ nat_le (lowered b m) x
unfolding lowered
le_lowered true zero x = grind (arith, nat_tests)
le_lowered true (suc m) x = grind (arith, nat_tests)
le_lowered false m x = let e : 0 + x ≡ x = omega arith in rw e refl

one_more : (n m : ℕ) (signs : ℕ → ℤ) → coincidences (suc n) m signs
    ≡ coincidences n (lowered (int_eq (pos 1) (signs 0)) m) (λ i. signs (suc i)) + coincidences n (lowered (int_eq (negsuc 0) (signs 0)) m) (λ i. signs (suc i))
unfolding coincidences all_patterns
one_more n m signs =
    sum_by-append passing (map (λ pattern. pos 1 ∷ pattern) (all_patterns n)) (map (λ pattern. negsuc 0 ∷ pattern) (all_patterns n))
    ∙ ap₂ ◌+◌ (with_first (pos 1)) (with_first (negsuc 0))
  where
    passing : List ℤ → ℕ
    passing pattern = cond (nat_le m (matches (suc n) (sign_of pattern) signs)) 1 0

    same : (s : ℤ) (pattern : List ℤ) → nat_le m (matches (suc n) (sign_of (s ∷ pattern)) signs)
        ≡ nat_le (lowered (int_eq s (signs 0)) m) (matches n (sign_of pattern) (λ i. signs (suc i)))
    same s pattern = ap (nat_le m) (matches_cons n s pattern signs) ∙ le_lowered (int_eq s (signs 0)) m _

    with_first : (s : ℤ) → sum_by passing (map (λ pattern. s ∷ pattern) (all_patterns n))
        ≡ count_by (λ pattern. nat_le (lowered (int_eq s (signs 0)) m) (matches n (sign_of pattern) (λ i. signs (suc i)))) (all_patterns n)
    with_first s = sum_by-map passing (λ pattern. s ∷ pattern) (all_patterns n)
        ∙ (λ i. sum_by (λ pattern. cond (same s pattern i) 1 0) (all_patterns n))

-- ---- Pascal's recursion

-- how many patterns of n signs match in at least m positions
unfoldable pub at_least : ℕ → ℕ → ℕ
at_least zero zero = 1
at_least zero (suc m) = 0
at_least (suc n) m = at_least n (m - 1) + at_least n m

fewer : (n m : ℕ) → at_least n m ≤ at_least n (m - 1)
unfolding at_least
fewer zero zero = omega arith
fewer zero (suc m) = omega arith
fewer (suc n) m = let a = fewer n m in let b = fewer n (m - 1) in omega (arith, a, b)

not_both : (z : ℤ) → int_eq (pos 1) z ≡ true → int_eq (negsuc 0) z ≡ true → ⊥
not_both z e g = clash ((Decides-int_eq (pos 1) z).0 e ∙ sym ((Decides-int_eq (negsuc 0) z).0 g))
  where
    clash : pos 1 ≡ negsuc 0 → ⊥
    clash h = omega (arith, ints, h)

no_signs_match : (signs : ℕ → ℤ) → coincidences 0 0 signs ≡ 1
unfolding coincidences all_patterns matches total_below
no_signs_match signs = refl

no_sign_is_missed : (m : ℕ) (signs : ℕ → ℤ) → coincidences 0 (suc m) signs ≡ 0
unfolding coincidences all_patterns matches total_below
no_sign_is_missed m signs = let e : nat_le (suc m) 0 ≡ false = grind (arith, nat_tests) in rw e refl

pub few : (n m : ℕ) (signs : ℕ → ℤ) → coincidences n m signs ≤ at_least n m
unfolding at_least lowered
few zero zero signs = let e = no_signs_match signs in omega (arith, e)
few zero (suc m) signs = let e = no_sign_is_missed m signs in omega (arith, e)
few (suc n) m signs =
    subst (λ k. k ≤ at_least n (m - 1) + at_least n m) (sym (one_more n m signs))
    (settle (λ k. few n k (λ i. signs (suc i))) (int_eq (pos 1) (signs 0)) refl (int_eq (negsuc 0) (signs 0)) refl)
  where
    rest : ℕ → ℤ
    rest i = signs (suc i)

    settle : ((k : ℕ) → coincidences n k rest ≤ at_least n k) → (a : Bool) → int_eq (pos 1) (signs 0) ≡ a → (b : Bool) → int_eq (negsuc 0) (signs 0) ≡ b →
        coincidences n (lowered a m) rest + coincidences n (lowered b m) rest ≤ at_least n (m - 1) + at_least n m
    settle h true e true g = absurd (not_both (signs 0) e g)
    settle h true e false g = let x = h (m - 1) in let y = h m in omega (arith, x, y)
    settle h false e true g = let x = h (m - 1) in let y = h m in omega (arith, x, y)
    settle h false e false g = let y = h m in let less = fewer n m in omega (arith, y, less)

-- a sign is 1 or -1
is_one : (z : ℤ) → nat_abs z ≡ 1 → int_eq (pos 1) z ≡ false → int_eq (negsuc 0) z ≡ false → ⊥
is_one (pos n) e g h = let one : n ≡ 1 = omega (arith, e) in clash (subst (λ m. int_eq (pos 1) (pos m) ≡ false) one g)
  where
    clash : true ≡ false → ⊥
    clash x = search arith
is_one (negsuc n) e g h = let none : n ≡ 0 = omega (arith, e) in clash (subst (λ m. int_eq (negsuc 0) (negsuc m) ≡ false) none h)
  where
    clash : true ≡ false → ⊥
    clash x = search arith

pub counted : (n m : ℕ) (signs : ℕ → ℤ) → AreSigns n signs → coincidences n m signs ≡ at_least n m
unfolding at_least lowered
counted zero zero signs are = no_signs_match signs
counted zero (suc m) signs are = no_sign_is_missed m signs
counted (suc n) m signs are =
    one_more n m signs ∙ settle (λ k. counted n k (λ i. signs (suc i)) (λ i below. are (suc i) (omega (arith, below)))) (int_eq (pos 1) (signs 0)) refl (int_eq (negsuc 0) (signs 0)) refl
  where
    rest : ℕ → ℤ
    rest i = signs (suc i)

    settle : ((k : ℕ) → coincidences n k rest ≡ at_least n k) → (a : Bool) → int_eq (pos 1) (signs 0) ≡ a → (b : Bool) → int_eq (negsuc 0) (signs 0) ≡ b →
        coincidences n (lowered a m) rest + coincidences n (lowered b m) rest ≡ at_least n (m - 1) + at_least n m
    settle h true e true g = absurd (not_both (signs 0) e g)
    settle h true e false g = let x = h (m - 1) in let y = h m in omega (arith, x, y)
    settle h false e true g = let x = h (m - 1) in let y = h m in omega (arith, x, y)
    settle h false e false g = absurd (is_one (signs 0) (are 0 (omega arith)) e g)

-- ---- the recursion row by row

-- the row after a row that begins with the numbers `left` and `xs`
unfoldable next : ℕ → List ℕ → List ℕ
next left [] = []
next left (x ∷ xs) = (left + x) ∷ next x xs

unfoldable next_row : List ℕ → List ℕ
next_row [] = []
next_row (x ∷ xs) = (x + x) ∷ next x xs

-- the row of n: how many patterns of n signs match in at least 0, 1 .. 93 positions
unfoldable row : ℕ → List ℕ
row zero = 1 ∷ replicate 93 0
row (suc n) = next_row (row n)

unfoldable AreFrom : ℕ → ℕ → List ℕ → Type 0
AreFrom n m [] = Unit {0}
AreFrom n m (x ∷ xs) = (x ≡ at_least n m) × AreFrom n (suc m) xs

zeros : (k m : ℕ) → AreFrom 0 (suc m) (replicate k 0)
unfolding at_least AreFrom
zeros zero m = tt
zeros (suc k) m = (refl, zeros k (suc m))

next_are : (n m left : ℕ) (xs : List ℕ) → left ≡ at_least n m → AreFrom n (suc m) xs → AreFrom (suc n) (suc m) (next left xs)
unfolding at_least AreFrom next
next_are n m left [] e are = tt
next_are n m left (x ∷ xs) e are =
    let k : m ≡ suc m - 1 = omega arith in
    (ap₂ ◌+◌ (e ∙ ap (at_least n) k) are.0, next_are n (suc m) x xs are.0 are.1)

next_row_are : (n : ℕ) (xs : List ℕ) → AreFrom n 0 xs → AreFrom (suc n) 0 (next_row xs)
unfolding at_least AreFrom next_row
next_row_are n [] are = tt
next_row_are n (x ∷ xs) are = (ap₂ ◌+◌ are.0 are.0, next_are n 0 x xs are.0 are.1)

row_are : (n : ℕ) → AreFrom n 0 (row n)
unfolding row at_least AreFrom
row_are zero = (refl, zeros 93 0)
row_are (suc n) = next_row_are n (row n) (row_are n)

from_at : (n m k : ℕ) (xs : List ℕ) → AreFrom n m xs → k < length xs → get_or xs k 0 ≡ at_least n (m + k)
unfolding AreFrom
from_at n m k [] are l = absurd (omega arith)
from_at n m zero (x ∷ xs) are l = let e : m + 0 ≡ m = omega arith in are.0 ∙ ap (at_least n) (sym e)
from_at n m (suc k) (x ∷ xs) are l =
    let e : suc m + k ≡ m + suc k = omega arith in
    from_at n (suc m) k xs are.1 (omega (arith, l)) ∙ ap (at_least n) e

last_row : (get_or (row 124) 93 0 ≡ 234004971861876424919930303080) × (length (row 124) ≡ 94)
unfolding row next next_row
last_row = (refl, refl)

at_least_93 : at_least 124 93 ≡ 234004971861876424919930303080
at_least_93 =
    let size = last_row.1 in
    sym (from_at 124 0 93 (row 124) (row_are 124) (omega (arith, size))) ∙ last_row.0

pub coincidences_are_counted : CoincidencesAreCounted
coincidences_are_counted signs are = counted 124 93 signs are ∙ at_least_93

pub coincidences_are_few : CoincidencesAreFew
coincidences_are_few signs = subst (λ n. coincidences 124 93 signs ≤ n) at_least_93 (few 124 93 signs)

pub coincidences_are_rare : CoincidencesAreRare
coincidences_are_rare = omega arith
