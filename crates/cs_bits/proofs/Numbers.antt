-- Words of bits and their numbers.
use Rattle.std.proofs.Common.{◌≡◌, ℕ, zero, suc, ◌+◌, ◌-◌, ◌*◌, ◌/◌, ◌%◌, ◌^◌, ◌<◌, ◌≤◌, Bool, true, false, cond, eqb, List, [], ◌∷◌, ◌++◌, length, get_or, take, drop, refl, ap, sym, subst, ◌∙◌, arith, add-one, length-drop, div-add-mod', mod-lt, mul-le-mul_right, pow_pos, mod-eq_of_lt, pow-add}
use Rattle.std.specs.Prelude.{slice_range, nat_eq}
use Rattle.std.specs.Int.{bit_at}
use Rattle.std.proofs.Math.Nat.{pow-suc, div-eq_of_lt, add_comm, add-mul-div_right}
use Rattle.std.proofs.Math.Seq.{take-suc}
use Rattle.std.proofs.Math.Pow.{pow_mono}
use Rattle.std.proofs.lemmas.Bool.Decides.{nat_tests}
use Rattle.std.proofs.lemmas.List.{ext_get_or, get_or-take, get_or-drop, length-append, length-take, length-take-le}
use Rattle.std.proofs.lemmas.Nat.{div-mul-add, mod-mul-add}
use Rattle.std.proofs.lemmas.Nat.Bits.{bit_at-lt}
use Rattle.finite.specs.Bits.{odd}
use Rattle.finite.specs.Lists.{values_below}
use Rattle.finite.proofs.Lists.{values_below-length, values_below_at, values_below_is}
use Rattle.cs_bits.specs.Numbers.{number, bits_of, part, field}

-- ---- from bits to a number

pub number_below : (bits : List Bool) → number bits < 2 ^ length bits
number_below [] = omega arith
number_below (false ∷ bits) = let before = number_below bits in let e = pow-suc 2 (length bits) in omega (arith, before, e)
number_below (true ∷ bits) = let before = number_below bits in let e = pow-suc 2 (length bits) in omega (arith, before, e)

number-append : (bits : List Bool) (b : Bool) → number (bits ++ b ∷ []) ≡ 2 * number bits + cond b 1 0
number-append [] false = refl
number-append [] true = refl
number-append (false ∷ bits) b = let before = number-append bits b in omega (arith, before)
number-append (true ∷ bits) b =
    let before = number-append bits b in
    let size : length (bits ++ b ∷ []) ≡ suc (length bits) = rw length-append (omega arith) in
    let e = pow-suc 2 (length bits) in
    rw size (omega (arith, before, e))

-- a word extended by one bit
pub number_more : (bits : List Bool) (i : ℕ) → i < length bits → number (take (i + 1) bits) ≡ 2 * number (take i bits) + cond (get_or bits i false) 1 0
number_more bits i inside = rw (add-one, take-suc bits i false inside) (number-append (take i bits) (get_or bits i false))

-- fewer than 64 bits have a number below 2 ^ 63, which can be doubled
pub number_before : (bits : List Bool) (i : ℕ) → i < length bits → length bits ≤ 64 → number (take i bits) < 2 ^ 63
number_before bits i inside few =
    let below = number_below (take i bits) in
    let size : length (take i bits) ≤ 63 = rw length-take (omega arith) in
    let power = pow_mono size in
    omega (arith, below, power)

-- words with the same length and number are equal
pub number_same : (xs ys : List Bool) → length xs ≡ length ys → number xs ≡ number ys → xs ≡ ys
number_same [] [] l e = refl
number_same [] (y ∷ ys) l e = absurd (omega (arith, l))
number_same (x ∷ xs) [] l e = absurd (omega (arith, l))
number_same (true ∷ xs) (true ∷ ys) l e =
    let long : length xs ≡ length ys = omega (arith, l) in
    let power : 2 ^ length xs ≡ 2 ^ length ys = ap (λ n. 2 ^ n) long in
    ap (λ bs. true ∷ bs) (number_same xs ys long (omega (arith, e, power)))
number_same (false ∷ xs) (false ∷ ys) l e =
    let long : length xs ≡ length ys = omega (arith, l) in
    ap (λ bs. false ∷ bs) (number_same xs ys long (omega (arith, e)))
number_same (true ∷ xs) (false ∷ ys) l e =
    let long : length xs ≡ length ys = omega (arith, l) in
    let power : 2 ^ length xs ≡ 2 ^ length ys = ap (λ n. 2 ^ n) long in
    let below = number_below ys in
    absurd (omega (arith, e, power, below))
number_same (false ∷ xs) (true ∷ ys) l e =
    let long : length xs ≡ length ys = omega (arith, l) in
    let power : 2 ^ length xs ≡ 2 ^ length ys = ap (λ n. 2 ^ n) long in
    let below = number_below xs in
    absurd (omega (arith, e, power, below))

-- ---- from a number to bits

pub length-bits_of : (width n : ℕ) → length (bits_of width n) ≡ width
length-bits_of zero n = refl
length-bits_of (suc width) n = ap suc (length-bits_of width n)

split_mod : (p r : ℕ) → 0 < p → (r / p % 2) * p + r % p ≡ r % (p * 2)
split_mod p r h =
    let q = r / p in
    let s : r % p < p = mod-lt r h in
    let b : q % 2 < 2 = omega arith in
    let k : (q % 2) * p ≤ 1 * p = mul-le-mul_right p (omega arith) in
    let e : (q / 2) * (p * 2) + ((q % 2) * p + r % p) ≡ r =
    omega (arith, div-add-mod' r p, ap (λ (n : ℕ). n * p) (div-add-mod' q 2)) in
    sym (mod-mul-add (q / 2) (p * 2) ((q % 2) * p + r % p) (omega arith)) ∙ ap (λ (n : ℕ). n % (p * 2)) e

weighed : (b w : ℕ) → b < 2 → cond (eqb b 1) w 0 ≡ b * w
weighed zero w h = omega arith
weighed (suc zero) w h = omega arith
weighed (suc (suc b)) w h = absurd (omega arith)

-- the low bits have the number n modulo 2 ^ width
pub number-bits_of : (width n : ℕ) → number (bits_of width n) ≡ n % 2 ^ width
number-bits_of zero n = omega arith
number-bits_of (suc width) n =
    rw (weighed (n / 2 ^ width % 2) (2 ^ length (bits_of width n)) (omega arith), length-bits_of width n, number-bits_of width n)
    (split_mod (2 ^ width) n (pow_pos width) ∙ ap (λ (m : ℕ). n % m) (sym (pow-suc 2 width)))

-- a number that fits is restored from its bits
pub number_of_bits : (width n : ℕ) → n < 2 ^ width → number (bits_of width n) ≡ n
number_of_bits width n small = number-bits_of width n ∙ mod-eq_of_lt small

pub bits_of_number : (bits : List Bool) → bits_of (length bits) (number bits) ≡ bits
bits_of_number bits =
    number_same (bits_of (length bits) (number bits)) bits (length-bits_of (length bits) (number bits))
    (number_of_bits (length bits) (number bits) (number_below bits))

-- a word is determined by its length and number
pub bits_of_is : (width n : ℕ) (bits : List Bool) → length bits ≡ width → number bits ≡ n → bits ≡ bits_of width n
bits_of_is width n bits size is = sym (bits_of_number bits) ∙ rw (size, is) refl

-- bit i of a number's bits
pub get_or-bits_of : (width n i : ℕ) → i < width → get_or (bits_of width n) i false ≡ odd (n / 2 ^ (width - 1 - i))
get_or-bits_of zero n i h = absurd (omega arith)
get_or-bits_of (suc width) n zero h = let e : suc width - 1 - 0 ≡ width = omega arith in rw e refl
get_or-bits_of (suc width) n (suc i) h = let e : suc width - 1 - suc i ≡ width - 1 - i = omega arith in rw e (get_or-bits_of width n i (omega arith))

pub bits_of-values : (width n : ℕ) → bits_of width n ≡ values_below width (λ i. odd (n / 2 ^ (width - 1 - i)))
bits_of-values width n =
    values_below_is false width (λ i. odd (n / 2 ^ (width - 1 - i))) (bits_of width n) (length-bits_of width n) (get_or-bits_of width n)

-- bit k of a word, from its number
pub word_bit : (bits : List Bool) (k : ℕ) → k < length bits → get_or bits k false ≡ odd (number bits / 2 ^ (length bits - 1 - k))
word_bit bits k h = ap (λ (bs : List Bool). get_or bs k false) (sym (bits_of_number bits)) ∙ get_or-bits_of (length bits) (number bits) k h

-- ---- parts of a word

pub length-part : (bits : List Bool) (first width : ℕ) → length (part bits first width) ≡ width
length-part bits first width = values_below-length width (λ i. get_or bits (first + i) false)

pub part_is_range : (bits : List Bool) (first width : ℕ) → first + width ≤ length bits → slice_range bits first (first + width) ≡ part bits first width
part_is_range bits first width inside =
    let e : first + width - first ≡ width = omega arith in
    let rest = length-drop first bits in
    let size : length (take width (drop first bits)) ≡ width = length-take-le width (drop first bits) (omega (arith, rest, inside)) in
    ap (λ n. take n (drop first bits)) e
    ∙ values_below_is false width (λ i. get_or bits (first + i) false) (take width (drop first bits)) size
    (λ i short. get_or-take width (drop first bits) i false short ∙ get_or-drop first bits i false)

pub field_below : (bits : List Bool) (first width : ℕ) → field bits first width < 2 ^ width
field_below bits first width = subst (λ n. field bits first width < 2 ^ n) (length-part bits first width) (number_below (part bits first width))

-- a word is its own part of full length
pub whole_part : (bits : List Bool) (n : ℕ) → length bits ≡ n → bits ≡ part bits 0 n
whole_part bits n size = values_below_is false n (λ i. get_or bits (0 + i) false) bits size (λ k h. ap (λ j. get_or bits j false) (omega arith))
