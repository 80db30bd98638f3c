-- The SSS for one identity within the group differ: each is packed into a number, and the numbers are compared.
use Rattle.std.proofs.Common.{◌≡◌, ◌≢◌, ℕ, zero, suc, ◌+◌, ◌*◌, ◌/◌, ◌%◌, ◌<◌, ◌≤◌, arith, refl, ap, sym, ◌∙◌, Bool, true, false, not, List, [], ◌∷◌, length, get_or, nat_eq, nat_lt, eq-eqb, ℤ, pos, negsuc}
use Rattle.std.specs.Prelude.{◌&&◌}
use Rattle.std.proofs.lemmas.Bool.{and_parts, false≢true, ltb-true, ltb-false}
use Rattle.finite.specs.Lists.{values_below}
use Rattle.finite.proofs.Lists.{values_below_at, values_below-length}
use Rattle.lte_types.specs.declared.frame.Half.{Half}
use Rattle.lte_types.specs.declared.frame.Half.TheVariants.{Zero, Five}
use Rattle.sync_seq.specs.Secondary.{S, C, Z, extended, period_bits, shift_sum, even_shift, odd_shift, shifted_value, sss_at, sss_list}
use Rattle.sync_seq.specs.Laws.{SecondaryDetermines}

-- ---- lists of distinct numbers

-- x is not in the list
unfoldable apart : ℕ → List ℕ → Bool
apart x [] = true
apart x (y ∷ ys) = not (nat_eq x y) && apart x ys

unfoldable distinct : List ℕ → Bool
distinct [] = true
distinct (x ∷ xs) = apart x xs && distinct xs

not_same : (x y : ℕ) → not (nat_eq x y) ≡ true → x ≢ y
not_same x y h e = false≢true (ap not (sym (eq-eqb x y e)) ∙ h)

apart_at : (x : ℕ) (ys : List ℕ) → apart x ys ≡ true → (j : ℕ) → j < length ys → x ≢ get_or ys j 0
unfolding apart
apart_at x [] h j l = absurd (omega arith)
apart_at x (y ∷ ys) h zero l = not_same x y (and_parts _ (apart x ys) h).0
apart_at x (y ∷ ys) h (suc j) l = apart_at x ys (and_parts (not (nat_eq x y)) _ h).1 j (omega arith)

distinct_at : (xs : List ℕ) → distinct xs ≡ true → (i j : ℕ) → i < j → j < length xs → get_or xs i 0 ≢ get_or xs j 0
unfolding distinct
distinct_at [] h i j p q = absurd (omega arith)
distinct_at (x ∷ xs) h i zero p q = absurd (omega arith)
distinct_at (x ∷ xs) h zero (suc j) p q = apart_at x xs (and_parts _ (distinct xs) h).0 j (omega arith)
distinct_at (x ∷ xs) h (suc i) (suc j) p q = distinct_at xs (and_parts (apart x xs) _ h).1 i j (omega arith) (omega arith)

-- ---- a sequence as one number

minus_bit : ℤ → ℕ
minus_bit (pos n) = 0
minus_bit (negsuc n) = 1

-- the first n signs packed into a number, one bit each
unfoldable packed : ℕ → (ℕ → ℤ) → ℕ
packed zero f = 0
packed (suc n) f = 2 * packed n f + minus_bit (f n)

packed_same : (n : ℕ) (f g : ℕ → ℤ) → ((k : ℕ) → k < n → f k ≡ g k) → packed n f ≡ packed n g
unfolding packed
packed_same zero f g h = refl
packed_same (suc n) f g h =
    let before = packed_same n f g (λ k l. h k (omega arith)) in
    let here = ap minus_bit (h n (omega arith)) in
    cc

-- ---- all pairs (group, half frame), numbered

abbrev half_by : ℕ → Half
half_by zero = Zero
half_by (suc n) = Five

unfoldable code : List Bool → List Bool → List Bool → ℕ → ℕ → ℕ
code s c z n2 i = packed 62 (shifted_value s c z n2 (even_shift (half_by (i % 2)) (i / 2)) (odd_shift (half_by (i % 2)) (i / 2)))

unfoldable codes : List Bool → List Bool → List Bool → ℕ → List ℕ
codes s c z n2 = values_below 336 (code s c z n2)

tell0 : distinct (codes (period_bits S) (period_bits C) (period_bits Z) 0) ≡ true
unfolding extended period_bits shift_sum shifted_value apart distinct minus_bit packed code codes
tell0 = refl

tell1 : distinct (codes (period_bits S) (period_bits C) (period_bits Z) 1) ≡ true
unfolding extended period_bits shift_sum shifted_value apart distinct minus_bit packed code codes
tell1 = refl

tell2 : distinct (codes (period_bits S) (period_bits C) (period_bits Z) 2) ≡ true
unfolding extended period_bits shift_sum shifted_value apart distinct minus_bit packed code codes
tell2 = refl

tell : (n2 : ℕ) → n2 ≤ 2 → distinct (codes (period_bits S) (period_bits C) (period_bits Z) n2) ≡ true
tell zero l = tell0
tell (suc zero) l = tell1
tell (suc (suc zero)) l = tell2
tell (suc (suc (suc n))) l = absurd (omega arith)

-- pairs with equal codes have equal numbers
codes_tell : (n2 i j : ℕ) → n2 ≤ 2 → i < 336 → j < 336 → code (period_bits S) (period_bits C) (period_bits Z) n2 i ≡ code (period_bits S) (period_bits C) (period_bits Z) n2 j → i ≡ j
unfolding codes
codes_tell n2 i j l p q e = settle (nat_lt i j) (nat_lt j i) refl refl
  where
    f : ℕ → ℕ
    f = code (period_bits S) (period_bits C) (period_bits Z) n2

    apart_in : (a b : ℕ) → a < b → b < 336 → f a ≢ f b
    apart_in a b below most same =
        distinct_at (values_below 336 f) (tell n2 l) a b below (omega (arith, values_below-length 336 f))
        (values_below_at f 336 a 0 (omega arith) ∙ same ∙ sym (values_below_at f 336 b 0 most))

    settle : (b c : Bool) → nat_lt i j ≡ b → nat_lt j i ≡ c → i ≡ j
    settle true c h k = absurd (apart_in i j (ltb-true i j h) q e)
    settle false true h k = absurd (apart_in j i (ltb-true j i k) p (sym e))
    settle false false h k = omega (arith, ltb-false i j h, ltb-false j i k)

half_number : Half → ℕ
half_number Zero = 0
half_number Five = 1

half_is : (half : Half) → half_by (half_number half) ≡ half
unfolding half_number
half_is Zero = refl
half_is Five = refl

half-le : (half : Half) → half_number half ≤ 1
unfolding half_number
half-le Zero = omega arith
half-le Five = omega arith

-- a pair's code packs its SSS signs
code_is : (n2 n1 : ℕ) (half : Half) → code (period_bits S) (period_bits C) (period_bits Z) n2 (2 * n1 + half_number half) ≡ packed 62 (sss_at n1 n2 half)
unfolding code sss_at
code_is n2 n1 half =
    let small = half-le half in
    let low : (2 * n1 + half_number half) % 2 ≡ half_number half = omega arith in
    let high : (2 * n1 + half_number half) / 2 ≡ n1 = omega arith in
    rw (low, high, half_is half) refl

pub secondary_determines : SecondaryDetermines
unfolding sss_list
secondary_determines n2 n1 m1 half other l p q e = (omega (arith, same, half-le half, half-le other), sym (half_is half) ∙ ap half_by halves ∙ half_is other)
  where
    value_same : (k : ℕ) → k < 62 → sss_at n1 n2 half k ≡ sss_at m1 n2 other k
    value_same k below =
        sym (values_below_at (sss_at n1 n2 half) 62 k (pos 0) below) ∙ ap (λ xs. get_or xs k (pos 0)) e ∙ values_below_at (sss_at m1 n2 other) 62 k (pos 0) below

    same : 2 * n1 + half_number half ≡ 2 * m1 + half_number other
    same =
        let a = half-le half in
        let b = half-le other in
        codes_tell n2 (2 * n1 + half_number half) (2 * m1 + half_number other) l (omega arith) (omega arith)
        (code_is n2 n1 half ∙ packed_same 62 (sss_at n1 n2 half) (sss_at m1 n2 other) value_same ∙ sym (code_is n2 m1 other))

    halves : half_number half ≡ half_number other
    halves =
        let a = half-le half in
        let b = half-le other in
        omega (arith, same)
