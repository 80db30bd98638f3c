-- The sum of the smallest values, and how far values are below a level.
use Rattle.std.proofs.Common.{◌≡◌, ℕ, zero, suc, ◌+◌, ◌-◌, ◌<◌, ◌≤◌, arith, refl, ap, sym, ◌∙◌, subst, Bool, true, false, List, [], ◌∷◌, length, get_or, ℤ, pos, negsuc, ◌+ℤ◌, ◌≤ℤ◌, sum_by, int_lt}
use Rattle.std.proofs.lemmas.Int.{ints}
use Rattle.std.proofs.lemmas.List.Sums.{sum_by-cons}
use Rattle.std.proofs.lemmas.List.Sorted.{sum_by-IsPermutation, length_permutation}
use Rattle.std.specs.Int.{int_gap}
use Rattle.std.specs.List.Sorted.{IsSorted}
use Rattle.std.specs.Ordering.{int_cmp, is_lt}
use Rattle.finite.specs.Sums.{sum_below, total_below}
use Rattle.finite.proofs.Sums.{total_below_split, total_below_same}
use Rattle.code_distance.specs.Room.{IsSumOfLeast}

-- ---- one value

-- by how much a value is below a level
abbrev pub below : ℤ → ℤ → ℕ
below level z = int_gap z level

reach : (level z : ℤ) → level ≤ℤ (z +ℤ pos (below level z))
reach (pos a) (pos b) = omega (arith, ints)
reach (pos a) (negsuc b) = omega (arith, ints)
reach (negsuc a) (pos b) = omega (arith, ints)
reach (negsuc a) (negsuc b) = omega (arith, ints)

exact : (level z : ℤ) → z ≤ℤ level → level ≡ z +ℤ pos (below level z)
exact (pos a) (pos b) h = omega (arith, ints)
exact (pos a) (negsuc b) h = omega (arith, ints)
exact (negsuc a) (pos b) h = omega (arith, ints)
exact (negsuc a) (negsuc b) h = omega (arith, ints)

none : (level z : ℤ) → level ≤ℤ z → below level z ≡ 0
none (pos a) (pos b) h = omega (arith, ints)
none (pos a) (negsuc b) h = omega (arith, ints)
none (negsuc a) (pos b) h = omega (arith, ints)
none (negsuc a) (negsuc b) h = omega (arith, ints)

-- ---- lists

abbrev at : List ℤ → ℕ → ℤ
at xs i = get_or xs i (pos 0)

by_index : (f : ℤ → ℕ) (xs : List ℤ) → sum_by f xs ≡ total_below (length xs) (λ i. f (at xs i))
unfolding total_below
by_index f [] = refl
by_index f (x ∷ xs) =
    let g : ℕ → ℕ = λ i. f (at (x ∷ xs) i) in
    let whole : total_below (length (x ∷ xs)) g ≡ total_below (1 + length xs) g = ap (λ n. total_below n g) (sym (next (length xs))) in
    let first = total_below_split 1 (length xs) g in
    let rest = total_below_same (length xs) (λ i. g (1 + i)) (λ i. f (at xs i)) (λ i inside. ap (λ j. f (at (x ∷ xs) j)) (next i)) in
    let before = by_index f xs in
    let here = sum_by-cons f x xs in
    omega (arith, whole, first, rest, before, here)
  where
    next : (i : ℕ) → 1 + i ≡ suc i
    next i = omega arith

-- the first values reach a level, if how far all are below it is added
reached : (n : ℕ) (level : ℤ) (g : ℕ → ℤ) → sum_below n (λ i. level) ≤ℤ (sum_below n g +ℤ pos (total_below n (λ i. below level (g i))))
unfolding sum_below total_below
reached zero level g = omega (arith, ints)
reached (suc n) level g =
    join (sum_below n (λ i. level)) level (sum_below n g) (g n) (total_below n (λ i. below level (g i))) (below level (g n)) (reached n level g) (reach level (g n))
  where
    join : (s l a b : ℤ) (c d : ℕ) → s ≤ℤ (a +ℤ pos c) → l ≤ℤ (b +ℤ pos d) → (s +ℤ l) ≤ℤ ((a +ℤ b) +ℤ pos (c + d))
    join s l a b c d h h' = omega (arith, ints, h, h')

-- and are this much below it, if none is above it
filled : (n : ℕ) (level : ℤ) (g : ℕ → ℤ) → ((i : ℕ) → i < n → g i ≤ℤ level) → sum_below n (λ i. level) ≡ sum_below n g +ℤ pos (total_below n (λ i. below level (g i)))
unfolding sum_below total_below
filled zero level g under = omega (arith, ints)
filled (suc n) level g under =
    join (sum_below n (λ i. level)) level (sum_below n g) (g n) (total_below n (λ i. below level (g i))) (below level (g n)) (filled n level g (λ i inside. under i (omega arith))) (exact level (g n) (under n (omega arith)))
  where
    join : (s l a b : ℤ) (c d : ℕ) → s ≡ a +ℤ pos c → l ≡ b +ℤ pos d → s +ℤ l ≡ (a +ℤ b) +ℤ pos (c + d)
    join s l a b c d h h' = omega (arith, ints, h, h')

more : (n m : ℕ) (f : ℕ → ℕ) → total_below n f ≤ total_below (n + m) f
more n m f = let h = total_below_split n m f in omega (arith, h)

nothing : (m : ℕ) (f : ℕ → ℕ) → ((k : ℕ) → k < m → f k ≡ 0) → total_below m f ≡ 0
unfolding total_below
nothing zero f h = refl
nothing (suc m) f h = let before = nothing m f (λ k inside. h k (omega arith)) in let here = h m (omega arith) in omega (arith, before, here)

-- ---- sorted lists

rises_by : (x y : ℤ) → is_lt (int_cmp y x) ≡ false → x ≤ℤ y
rises_by x y e = settle (int_lt y x) refl
  where
    settle : (b : Bool) → int_lt y x ≡ b → x ≤ℤ y
    settle true above = absurd cc
    settle false not_above = omega (arith, ints, not_above)

module _ (xs : List ℤ) (ascending : IsSorted int_cmp xs) where
  next : (k : ℕ) → suc k < length xs → at xs k ≤ℤ at xs (suc k)
  next k inside = rises_by (at xs k) (at xs (suc k)) (subst (λ n. is_lt (int_cmp (at xs n) (at xs k)) ≡ false) one (ascending k (pos 0) (omega arith) (omega (arith, inside))))
    where
      one : k + 1 ≡ suc k
      one = omega arith

  rises : (i d : ℕ) → i + d < length xs → at xs i ≤ℤ at xs (i + d)
  rises i zero inside = let e : i + 0 ≡ i = omega arith in rw e (omega (arith, ints))
  rises i (suc d) inside =
      let e : i + suc d ≡ suc (i + d) = omega arith in
      subst (λ n. at xs i ≤ℤ at xs n) (sym e) (over (at xs i) (at xs (i + d)) (at xs (suc (i + d))) (rises i d (omega (arith, inside))) (next (i + d) (omega (arith, inside))))
    where
      over : (a b c : ℤ) → a ≤ℤ b → b ≤ℤ c → a ≤ℤ c
      over a b c h h' = omega (arith, ints, h, h')

  ordered : (i j : ℕ) → i ≤ j → j < length xs → at xs i ≤ℤ at xs j
  ordered i j before inside =
      let e : i + (j - i) ≡ j = omega (arith, before) in
      subst (λ n. at xs i ≤ℤ at xs n) e (rises i (j - i) (omega (arith, before, inside)))

-- ---- the sum of the smallest values

module _ (n : ℕ) (values : List ℤ) (sum : ℤ) (is : IsSumOfLeast n values sum) (enough : n ≤ length values) where
  size : length is.sorted ≡ length values
  size = length_permutation values is.sorted is.same

  abbrev rest : ℕ
  rest = length values - n

  parts : n + rest ≡ length is.sorted
  parts = let s = size in omega (arith, s, enough)

  depth : (level : ℤ) → sum_by (below level) values ≡ total_below (n + rest) (λ i. below level (at is.sorted i))
  depth level =
      sym (sum_by-IsPermutation (below level) values is.sorted is.same) ∙ by_index (below level) is.sorted
      ∙ ap (λ m. total_below m (λ i. below level (at is.sorted i))) (sym parts)

  -- the sum is at least any level as many times as there are values in it, less how far all values are below it
  pub at_least : (level : ℤ) → sum_below n (λ i. level) ≤ℤ (sum +ℤ pos (sum_by (below level) values))
  at_least level =
      let sum_is = is.sum_is in
      let part = more n rest (λ i. below level (at is.sorted i)) in
      over _ _ sum _ _ (reached n level (at is.sorted)) (sym sum_is) (rw (depth level) part)
    where
      over : (s a b : ℤ) (c d : ℕ) → s ≤ℤ (a +ℤ pos c) → a ≡ b → c ≤ d → s ≤ℤ (b +ℤ pos d)
      over s a b c d h e l = omega (arith, ints, h, e, l)

  -- and so much for some level that is not below the values in it
  pub reaches : 0 < n → (level : ℤ) × (sum_below n (λ i. level) ≡ sum +ℤ pos (sum_by (below level) values)) × ((i : ℕ) → i < n → at is.sorted i ≤ℤ level)
  reaches some = (level, over _ _ sum _ _ (filled n level (at is.sorted) under) (sym is.sum_is) whole, under)
    where
      level : ℤ
      level = at is.sorted (n - 1)

      under : (i : ℕ) → i < n → at is.sorted i ≤ℤ level
      under i inside = let p = parts in ordered is.sorted is.ascending i (n - 1) (omega (arith, inside)) (omega (arith, some, p))

      f : ℕ → ℕ
      f i = below level (at is.sorted i)

      above : (k : ℕ) → k < rest → f (n + k) ≡ 0
      above k inside = let p = parts in none level (at is.sorted (n + k)) (ordered is.sorted is.ascending (n - 1) (n + k) (omega arith) (omega (arith, inside, p)))

      whole : total_below n f ≡ sum_by (below level) values
      whole = let all = depth level in let split = total_below_split n rest f in let zeros = nothing rest (λ k. f (n + k)) above in omega (arith, all, split, zeros)

      over : (s a b : ℤ) (c d : ℕ) → s ≡ a +ℤ pos c → a ≡ b → c ≡ d → s ≡ b +ℤ pos d
      over s a b c d h e l = omega (arith, ints, h, e, l)

-- two sums of the smallest of the same values are equal
pub one_sum : (n : ℕ) (values : List ℤ) (a b : ℤ) → 0 < n → n ≤ length values → IsSumOfLeast n values a → IsSumOfLeast n values b → a ≡ b
one_sum n values a b some enough is_a is_b =
    let (low, here, _) = reaches n values a is_a enough some in
    let (high, there, _) = reaches n values b is_b enough some in
    let up = at_least n values b is_b enough low in
    let down = at_least n values a is_a enough high in
    level_up _ _ a b _ _ here there up down
  where
    level_up : (s t a b : ℤ) (c d : ℕ) → s ≡ a +ℤ pos c → t ≡ b +ℤ pos d → s ≤ℤ (b +ℤ pos c) → t ≤ℤ (a +ℤ pos d) → a ≡ b
    level_up s t a b c d h h' l l' = omega (arith, ints, h, h', l, l')
