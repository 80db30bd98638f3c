-- How many patterns of 120 signs match given ones in at least 102 positions.
use Rattle.std.proofs.Common.{◌≡◌, ℕ, zero, suc, ◌+◌, ◌-◌, ◌/◌, ◌%◌, ◌<◌, ◌≤◌, ◌∷◌, List, [], length, Bool, true, false, cond, pos, negsuc, nat_abs, get_or, replicate, arith, refl, ap, ap₂, sym, subst, ◌∙◌}
use Rattle.accumulated_sss.specs.Patterns.{coincidences, AreSigns}
use Rattle.accumulated_sss.proofs.Coincidences.{at_least, few, counted}
use Rattle.added_master.specs.Sums.{bit_in}
use Rattle.added_master.specs.Master.{sign_of_sum, sign_of_bit}
use Rattle.added_master.specs.Laws.{CoincidencesAreCounted, CoincidencesAreFew, CoincidencesAreRare}

-- ---- Pascal's recursion row by row

-- the row after a row that begins with the numbers `left` and `xs`
unfoldable next : ℕ → List ℕ → List ℕ
next left [] = []
next left (x ∷ xs) = (left + x) ∷ next x xs

unfoldable next_row : List ℕ → List ℕ
next_row [] = []
next_row (x ∷ xs) = (x + x) ∷ next x xs

-- the row of n: how many patterns of n signs match in at least 0, 1 .. 102 positions
unfoldable row : ℕ → List ℕ
row zero = 1 ∷ replicate 102 0
row (suc n) = next_row (row n)

unfoldable AreFrom : ℕ → ℕ → List ℕ → Type 0
AreFrom n m [] = Unit {0}
AreFrom n m (x ∷ xs) = (x ≡ at_least n m) × AreFrom n (suc m) xs

zeros : (k m : ℕ) → AreFrom 0 (suc m) (replicate k 0)
unfolding at_least AreFrom
zeros zero m = tt
zeros (suc k) m = (refl, zeros k (suc m))

next_are : (n m left : ℕ) (xs : List ℕ) → left ≡ at_least n m → AreFrom n (suc m) xs → AreFrom (suc n) (suc m) (next left xs)
unfolding at_least AreFrom next
next_are n m left [] e are = tt
next_are n m left (x ∷ xs) e are =
    let k : m ≡ suc m - 1 = omega arith in
    (ap₂ ◌+◌ (e ∙ ap (at_least n) k) are.0, next_are n (suc m) x xs are.0 are.1)

next_row_are : (n : ℕ) (xs : List ℕ) → AreFrom n 0 xs → AreFrom (suc n) 0 (next_row xs)
unfolding at_least AreFrom next_row
next_row_are n [] are = tt
next_row_are n (x ∷ xs) are = (ap₂ ◌+◌ are.0 are.0, next_are n 0 x xs are.0 are.1)

row_are : (n : ℕ) → AreFrom n 0 (row n)
unfolding row at_least AreFrom
row_are zero = (refl, zeros 102 0)
row_are (suc n) = next_row_are n (row n) (row_are n)

from_at : (n m k : ℕ) (xs : List ℕ) → AreFrom n m xs → k < length xs → get_or xs k 0 ≡ at_least n (m + k)
unfolding AreFrom
from_at n m k [] are l = absurd (omega arith)
from_at n m zero (x ∷ xs) are l = let e : m + 0 ≡ m = omega arith in are.0 ∙ ap (at_least n) (sym e)
from_at n m (suc k) (x ∷ xs) are l =
    let e : suc m + k ≡ m + suc k = omega arith in
    from_at n (suc m) k xs are.1 (omega (arith, l)) ∙ ap (at_least n) e

last_row : (get_or (row 120) 102 0 ≡ 1313204944144981392715) × (length (row 120) ≡ 103)
unfolding row next next_row
last_row = (refl, refl)

at_least_102 : at_least 120 102 ≡ 1313204944144981392715
at_least_102 =
    let size = last_row.1 in
    sym (from_at 120 0 102 (row 120) (row_are 120) (omega (arith, size))) ∙ last_row.0

-- ---- the laws

size_of_sign : (b : Bool) → nat_abs (cond b (negsuc 0) (pos 1)) ≡ 1
size_of_sign true = refl
size_of_sign false = refl

signs_of_bits : (coded : List (List Bool)) → AreSigns 120 (sign_of_bit coded)
signs_of_bits coded i inside = size_of_sign (bit_in coded (i / 3) (i % 3))

pub coincidences_are_counted : CoincidencesAreCounted
coincidences_are_counted coded = counted 120 102 (sign_of_bit coded) (signs_of_bits coded) ∙ at_least_102

pub coincidences_are_few : CoincidencesAreFew
coincidences_are_few sums = subst (λ n. coincidences 120 102 (sign_of_sum sums) ≤ n) at_least_102 (few 120 102 (sign_of_sum sums))

pub coincidences_are_rare : CoincidencesAreRare
coincidences_are_rare = omega arith
