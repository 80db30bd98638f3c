-- A 31-bit register as a window on a sequence, the least significant bit first.
use Rattle.std.proofs.Common.{ℕ, zero, suc, ◌+◌, ◌*◌, ◌/◌, ◌%◌, ◌^◌, ◌<◌, ◌≡◌, Bool, false, nat_eq, List, [], ◌∷◌, ◌++◌, length, get_or, refl, ap, ap₂, sym, ◌∙◌, arith, lit<, bit_xor, bit_and, pow-suc, drop, add-one}
use Rattle.std.specs.Int.{bit_at}
use Rattle.std.proofs.lemmas.Nat.{xor_mod, and_mask, xor_shr, shr-shr, mod-pow-add}
use Rattle.std.proofs.lemmas.Nat.Bits.{bit_at-suc, bit_at_lowest, bit_at_xor}
use Rattle.finite.specs.Bits.{xor, odd}
use Rattle.finite.proofs.Bits.{xor-false, xor_assoc}
use Rattle.gold.specs.Register.{sum_at, step, window, low_bits}
use Rattle.gold.specs.Sequence.{x1_taps, x1_start, x2_taps, x2_start, x1, x2}
use Rattle.gold.specs.Gold.{gold_bit}
use Rattle.gold.proofs.Windows.{get_or-window}
use Rattle.std.proofs.Math.Nat.{div-one}

-- ---- a number's low bits

pub length-low_bits : (count number : ℕ) → length (low_bits count number) ≡ count
unfolding low_bits
length-low_bits zero number = refl
length-low_bits (suc count) number = omega (arith, length-low_bits count (number / 2))

pub get_or-low_bits : (count number i : ℕ) → i < count → get_or (low_bits count number) i false ≡ nat_eq (bit_at number i) 1
unfolding low_bits
get_or-low_bits zero number i inside = absurd (omega arith)
get_or-low_bits (suc count) number zero inside = ap (λ (n : ℕ). nat_eq n 1) (sym (bit_at_lowest number))
get_or-low_bits (suc count) number (suc i) inside =
    get_or-low_bits count (number / 2) i (omega arith) ∙ ap (λ (n : ℕ). nat_eq n 1) (sym (bit_at-suc number i))

low_bits-suc : (n r : ℕ) → low_bits (suc n) r ≡ low_bits n r ++ (nat_eq (r / 2 ^ n % 2) 1 ∷ [])
unfolding low_bits
low_bits-suc zero r = ap (λ (m : ℕ). nat_eq (m % 2) 1 ∷ []) (sym (div-one r))
low_bits-suc (suc n) r =
    let e : 1 + n ≡ suc n = omega arith in
    ap (λ bits. odd r ∷ bits)
    (low_bits-suc n (r / 2) ∙ ap (λ (m : ℕ). low_bits n (r / 2) ++ (nat_eq (m % 2) 1 ∷ [])) (shr-shr r 1 n ∙ ap (λ (m : ℕ). r / 2 ^ m) e))

-- the low n + 1 bits are the low n bits and bit n
pub low_bits-more : (n r : ℕ) → low_bits (n + 1) r ≡ low_bits n r ++ (nat_eq (r / 2 ^ n % 2) 1 ∷ [])
low_bits-more n r = rw add-one (low_bits-suc n r)

-- the bits of two numbers packed into one, the first number lowest
low_bits-join : (w v n a b : ℕ) → n ≡ w + v → a < 2 ^ w → low_bits n (a + b * 2 ^ w) ≡ low_bits w a ++ low_bits v b
unfolding low_bits
low_bits-join zero v n a b size fits =
    let e : a + b * 2 ^ 0 ≡ b = omega (arith, fits) in
    let e' : n ≡ v = omega (arith, size) in
    rw (e, e') refl
low_bits-join (suc w) v zero a b size fits = absurd (omega (arith, size))
low_bits-join (suc w) v (suc n) a b size fits =
    let p : b * 2 ^ suc w ≡ b * (2 ^ w * 2) = ap (λ (m : ℕ). b * m) (pow-suc 2 w) in
    let q : 2 ^ suc w ≡ 2 ^ w * 2 = pow-suc 2 w in
    let e : (a + b * 2 ^ suc w) % 2 ≡ a % 2 = omega (arith, p) in
    let f : (a + b * 2 ^ suc w) / 2 ≡ a / 2 + b * 2 ^ w = omega (arith, p) in
    let g : a / 2 < 2 ^ w = omega (arith, q, fits) in
    ap₂ (λ (x : ℕ) (ys : List Bool). nat_eq x 1 ∷ ys) e (ap (low_bits n) f ∙ low_bits-join w v n (a / 2) b (omega (arith, size)) g)

-- shifting a number right by k drops its k lowest bits
low_bits-drop : (k w n r : ℕ) → n ≡ k + w → low_bits w (r / 2 ^ k) ≡ drop k (low_bits n r)
unfolding low_bits
low_bits-drop zero w n r size =
    let e' : n ≡ w = omega (arith, size) in
    rw e' (ap (low_bits w) (div-one r))
low_bits-drop (suc k) w zero r size = absurd (omega (arith, size))
low_bits-drop (suc k) w (suc n) r size =
    let e : suc k ≡ 1 + k = omega arith in
    ap (λ (m : ℕ). low_bits w (r / 2 ^ m)) e ∙ ap (low_bits w) (sym (shr-shr r 1 k)) ∙ low_bits-drop k w n (r / 2) (omega (arith, size))

-- the low w bits depend on the number modulo 2 ^ w
low_bits-mod : (w r : ℕ) → low_bits w (r % 2 ^ w) ≡ low_bits w r
unfolding low_bits
low_bits-mod zero r = refl
low_bits-mod (suc w) r =
    let g : suc w ≡ w + 1 = omega arith in
    let m : r % 2 ^ suc w ≡ r / 2 % 2 ^ w * 2 + r % 2 = ap (λ (n : ℕ). r % 2 ^ n) g ∙ mod-pow-add r w 1 in
    let e : (r % 2 ^ suc w) % 2 ≡ r % 2 = omega (arith, m) in
    let f : (r % 2 ^ suc w) / 2 ≡ r / 2 % 2 ^ w = omega (arith, m) in
    ap₂ (λ (x : ℕ) (ys : List Bool). nat_eq x 1 ∷ ys) e (ap (low_bits w) f ∙ low_bits-mod w (r / 2))

-- ---- the lowest bit of the XOR

low_two : (a b : ℕ) → a < 2 → b < 2 → nat_eq (bit_xor a b) 1 ≡ xor (nat_eq a 1) (nat_eq b 1)
low_two zero zero p q = refl
low_two zero (suc zero) p q = refl
low_two (suc zero) zero p q = refl
low_two (suc zero) (suc zero) p q = refl
low_two zero (suc (suc b)) p q = absurd (omega arith)
low_two (suc zero) (suc (suc b)) p q = absurd (omega arith)
low_two (suc (suc a)) b p q = absurd (omega arith)

xor_odd : (a b : ℕ) → nat_eq (bit_xor a b % 2) 1 ≡ xor (nat_eq (a % 2) 1) (nat_eq (b % 2) 1)
xor_odd a b = ap (λ (n : ℕ). nat_eq n 1) (xor_mod a b 1) ∙ low_two (a % 2) (b % 2) (omega arith) (omega arith)

pub masked-fits : (n : ℕ) → bit_and n 33554431 < 2 ^ 25
masked-fits n = let e : bit_and n 33554431 ≡ n % 2 ^ 25 = and_mask n 25 in omega (arith, e)

low_bits-masked : (n : ℕ) → low_bits 25 (bit_and n 33554431) ≡ low_bits 25 n
low_bits-masked n = ap (low_bits 25) (and_mask n 25) ∙ low_bits-mod 25 n

halves2 : (r : ℕ) → r / 2 / 2 ≡ r / 4
halves2 r = omega arith

halves3 : (r : ℕ) → r / 4 / 2 ≡ r / 8
halves3 r = omega arith

-- ---- the registers, a block of steps later

-- the XOR at the taps, from each of the first positions
unfoldable sums : List ℕ → ℕ → List Bool → List Bool
sums taps zero bits = []
sums taps (suc n) bits = sum_at taps bits ∷ sums taps n (drop 1 bits)

turned_round : (r : ℕ) → r / 8 / 2 ≡ r / 2 / 8
turned_round r = omega arith

quarter_half : (r : ℕ) → r / 4 / 2 ≡ r / 2 / 4
quarter_half r = omega arith

x2_half : (r : ℕ) → bit_xor (bit_xor (bit_xor (r / 8) (r / 4)) (r / 2)) r / 2 ≡ bit_xor (bit_xor (bit_xor (r / 2 / 8) (r / 2 / 4)) (r / 2 / 2)) (r / 2)
x2_half r =
    xor_shr (bit_xor (bit_xor (r / 8) (r / 4)) (r / 2)) r 1
    ∙ ap (λ (m : ℕ). bit_xor m (r / 2)) (xor_shr (bit_xor (r / 8) (r / 4)) (r / 2) 1
    ∙ ap (λ (m : ℕ). bit_xor m (r / 2 / 2)) (xor_shr (r / 8) (r / 4) 1 ∙ ap₂ bit_xor (turned_round r) (quarter_half r)))

x1_sums : (n r : ℕ) → low_bits n (bit_xor (r / 8) r) ≡ sums x1_taps n (low_bits (suc (suc (suc (suc (suc (suc n)))))) r)
unfolding sums sum_at low_bits x1_taps
x1_sums zero r = refl
x1_sums (suc n) r = ap₂ ◌∷◌ (simp (xor_odd, xor-false, halves2, halves3)) (ap (low_bits n) (xor_shr (r / 8) r 1 ∙ ap (λ (m : ℕ). bit_xor m (r / 2)) (turned_round r)) ∙ x1_sums n (r / 2))

x1_window : (r : ℕ) → window x1_taps (low_bits 31 r) 25 ≡ drop 25 (low_bits 31 r) ++ sums x1_taps 25 (low_bits 31 r)
unfolding window step sums sum_at low_bits x1_taps
x1_window r = refl

-- shifting in a block with these bits advances the register by a block
block_on : (taps : List ℕ) (r bits : ℕ) → r < 2 ^ 31 → low_bits 25 bits ≡ sums taps 25 (low_bits 31 r) →
    low_bits 31 (r / 2 ^ 25 + bits * 2 ^ 6) ≡ drop 25 (low_bits 31 r) ++ sums taps 25 (low_bits 31 r)
block_on taps r bits fits are = low_bits-join 6 25 31 (r / 2 ^ 25) bits refl (omega (arith, fits)) ∙ ap₂ ◌++◌ (low_bits-drop 25 6 31 r refl) are

x2_sums : (n r : ℕ) → low_bits n (bit_xor (bit_xor (bit_xor (r / 8) (r / 4)) (r / 2)) r) ≡ sums x2_taps n (low_bits (suc (suc (suc (suc (suc (suc n)))))) r)
unfolding sums sum_at low_bits x2_taps
x2_sums zero r = refl
x2_sums (suc n) r = ap₂ ◌∷◌ (simp (xor_odd, xor-false, xor_assoc, halves2, halves3)) (ap (low_bits n) (x2_half r) ∙ x2_sums n (r / 2))

x2_window : (r : ℕ) → window x2_taps (low_bits 31 r) 25 ≡ drop 25 (low_bits 31 r) ++ sums x2_taps 25 (low_bits 31 r)
unfolding window step sums sum_at low_bits x2_taps
x2_window r = refl

pub x1_later : (r : ℕ) → r < 2 ^ 31 → low_bits 31 (r / 2 ^ 25 + bit_and (bit_xor (r / 8) r) 33554431 * 2 ^ 6) ≡ window x1_taps (low_bits 31 r) 25
x1_later r fits = block_on x1_taps r _ fits (low_bits-masked _ ∙ x1_sums 25 r) ∙ sym (x1_window r)

pub x2_later : (r : ℕ) → r < 2 ^ 31 →
    low_bits 31 (r / 2 ^ 25 + bit_and (bit_xor (bit_xor (bit_xor (r / 8) (r / 4)) (r / 2)) r) 33554431 * 2 ^ 6) ≡ window x2_taps (low_bits 31 r) 25
x2_later r fits = block_on x2_taps r _ fits (low_bits-masked _ ∙ x2_sums 25 r) ∙ sym (x2_window r)

-- ---- both registers

-- both registers are at index n of their sequences
pub record StandAt (c_init n first second : ℕ) : Type 0 where
  pub first_fits : first < 2 ^ 31
  pub second_fits : second < 2 ^ 31
  pub first_bits : low_bits 31 first ≡ window x1_taps x1_start n
  pub second_bits : low_bits 31 second ≡ window x2_taps (x2_start c_init) n

pub stand_at_start : (c_init : ℕ) → c_init < 2 ^ 31 → StandAt c_init 0 1 c_init
unfolding window x1_start x2_start low_bits
stand_at_start c_init fits = record { first_fits = lit< tt; second_fits = fits; first_bits = refl; second_bits = refl }

window-add : (taps : List ℕ) (start : List Bool) (n k : ℕ) → window taps (window taps start n) k ≡ window taps start (n + k)
unfolding window
window-add taps start n zero = ap (window taps start) (omega arith)
window-add taps start n (suc k) = ap (step taps) (window-add taps start n k) ∙ ap (window taps start) (let e : suc (n + k) ≡ n + suc k = omega arith in e)

pub stand_further : (c_init n n' first second first' second' : ℕ) → StandAt c_init n first second → n' ≡ n + 25 →
    first' < 2 ^ 31 → low_bits 31 first' ≡ window x1_taps (low_bits 31 first) 25 →
    second' < 2 ^ 31 → low_bits 31 second' ≡ window x2_taps (low_bits 31 second) 25 →
    StandAt c_init n' first' second'
stand_further c_init n n' first second first' second' here next fits goes fits' goes' = rw next (record {
  first_fits = fits;
  second_fits = fits';
  first_bits = goes ∙ ap (λ bits. window x1_taps bits 25) here.first_bits ∙ window-add x1_taps x1_start n 25;
  second_bits = goes' ∙ ap (λ bits. window x2_taps bits 25) here.second_bits ∙ window-add x2_taps (x2_start c_init) n 25;
})

bit_below : (n i : ℕ) → bit_at n i < 2
bit_below n i = omega arith

sum_of_two : (a b : ℕ) → a < 2 → b < 2 → nat_eq ((a + b) % 2) 1 ≡ xor (nat_eq a 1) (nat_eq b 1)
sum_of_two zero zero p q = refl
sum_of_two zero (suc zero) p q = refl
sum_of_two (suc zero) zero p q = refl
sum_of_two (suc zero) (suc zero) p q = refl
sum_of_two zero (suc (suc b)) p q = absurd (omega arith)
sum_of_two (suc zero) (suc (suc b)) p q = absurd (omega arith)
sum_of_two (suc (suc a)) b p q = absurd (omega arith)

in_window : (taps : List ℕ) (start : List Bool) (r n j : ℕ) → low_bits 31 r ≡ window taps start n → length start ≡ 31 → j < 31 →
    nat_eq (bit_at r j) 1 ≡ get_or (window taps start (n + j)) 0 false
in_window taps start r n j stands long inside =
    sym (get_or-low_bits 31 r j inside) ∙ ap (λ (bits : List Bool). get_or bits j false) stands ∙ get_or-window taps start j n (omega (arith, long, inside))

pub x1_long : length x1_start ≡ 31
unfolding x1_start
x1_long = refl

pub x2_long : (c_init : ℕ) → length (x2_start c_init) ≡ 31
unfolding x2_start
x2_long c_init = length-low_bits 31 c_init

-- the registers XORed give bits of c, 1600 positions earlier
pub sum-bits : (c_init n first second count j : ℕ) → StandAt c_init (n + 1600) first second → j < 31 → j < count →
    get_or (low_bits count (bit_xor first second)) j false ≡ gold_bit c_init (n + j)
unfolding gold_bit x1 x2
sum-bits c_init n first second count j here inside below =
    let place : n + 1600 + j ≡ n + j + 1600 = omega arith in
    get_or-low_bits count (bit_xor first second) j below
    ∙ ap (λ (k : ℕ). nat_eq k 1) (bit_at_xor first second j) ∙ sum_of_two _ _ (bit_below first j) (bit_below second j)
    ∙ ap₂ xor
    (in_window x1_taps x1_start first (n + 1600) j here.first_bits x1_long inside ∙ ap (λ (k : ℕ). get_or (window x1_taps x1_start k) 0 false) place)
    (in_window x2_taps (x2_start c_init) second (n + 1600) j here.second_bits (x2_long c_init) inside
    ∙ ap (λ (k : ℕ). get_or (window x2_taps (x2_start c_init) k) 0 false) place)
