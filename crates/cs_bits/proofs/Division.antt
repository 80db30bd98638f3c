-- A w-bit register as a list, and one step of the long division.
use Rattle.std.proofs.Common.{ℕ, zero, suc, ◌+◌, ◌-◌, ◌*◌, ◌/◌, ◌%◌, ◌^◌, ◌<◌, ◌≤◌, ◌≡◌, Bool, true, false, cond, eqb, List, [], ◌∷◌, ◌++◌, length, get_or, drop, replicate, refl, ap, sym, ◌∙◌, arith, bit_xor, div-add-mod', length-append, mod-lt, mul-le-mul_right, pow_pos, pow-suc, drop-cons, drop_of_length-le, ap₂, mod-eq_of_lt}
use Rattle.std.specs.Int.{bit_at}
use Rattle.std.proofs.lemmas.Nat.Bits.{bit_at_xor, bit_at-lt, bit_at-suc, bit_at_lowest, bit_at_cat_low, bit_at-zero}
use Rattle.std.proofs.lemmas.Bool.Decides.{nat_tests}
use Rattle.std.proofs.lemmas.Nat.{mod-mul-add}
use Rattle.finite.specs.Bits.{xor}
use Rattle.cs_bits.specs.Numbers.{number, bits_of}
use Rattle.cs_bits.specs.Polynomial.{xor_onto, divide, remainder}
use Rattle.cs_bits.specs.Register.{next}
use Rattle.cs_bits.proofs.Numbers.{length-bits_of, number-bits_of}
use Rattle.finite.proofs.Bits.{xor-false, false-xor, xor_assoc}

xor_bits : (a b : ℕ) → a < 2 → b < 2 → eqb ((a + b) % 2) 1 ≡ xor (eqb a 1) (eqb b 1)
xor_bits a b p q = grind (arith, nat_tests)

pub bits_of-xor : (w a b : ℕ) → bits_of w (bit_xor a b) ≡ xor_onto (bits_of w a) (bits_of w b)
unfolding xor_onto
bits_of-xor zero a b = refl
bits_of-xor (suc w) a b =
    rw (bit_at_xor a b w, xor_bits (bit_at a w) (bit_at b w) (bit_at-lt a w) (bit_at-lt b w), bits_of-xor w a b) refl

-- bit i of a remainder modulo 2 ^ h, for i below h, is bit i of the number
bit_at_below : (h m i : ℕ) → i < h → bit_at (m % 2 ^ h) i ≡ bit_at m i
bit_at_below h m i l = sym (bit_at_cat_low (m / 2 ^ h) h (m % 2 ^ h) i l) ∙ ap (λ n. bit_at n i) (div-add-mod' m (2 ^ h))

half_of : (r : ℕ) → (r * 2) / 2 ≡ r
half_of r = omega arith

bit_at_double : (h r i : ℕ) → suc i < h → bit_at ((r * 2) % 2 ^ h) (suc i) ≡ bit_at r i
bit_at_double h r i l = bit_at_below h (r * 2) (suc i) l ∙ bit_at-suc (r * 2) i ∙ ap (λ n. bit_at n i) (half_of r)

bit_at_double_lowest : (h r : ℕ) → 0 < h → bit_at ((r * 2) % 2 ^ h) 0 ≡ 0
bit_at_double_lowest h r l = bit_at_below h (r * 2) 0 l ∙ bit_at_lowest (r * 2) ∙ omega arith

pub bits_of-double : (h w r : ℕ) → suc w ≤ h → bits_of (suc w) ((r * 2) % 2 ^ h) ≡ bits_of w r ++ (false ∷ [])
bits_of-double h zero r l = rw (bit_at_double_lowest h r l) refl
bits_of-double h (suc w) r l = rw (bit_at_double h r w l, bits_of-double h w r (omega arith)) refl

-- ---- lists

pub xor_onto-none : (xs : List Bool) → xor_onto xs [] ≡ xs
unfolding xor_onto
xor_onto-none [] = refl
xor_onto-none (x ∷ xs) = refl

pub xor_onto-false : (xs ts : List Bool) → xor_onto xs (ts ++ (false ∷ [])) ≡ xor_onto xs ts
unfolding xor_onto
xor_onto-false [] ts = refl
xor_onto-false (x ∷ xs) [] = rw (xor-false x, xor_onto-none xs) refl
xor_onto-false (x ∷ xs) (t ∷ ts) = ap (λ zs. xor x t ∷ zs) (xor_onto-false xs ts)

pub xor_onto-twice : (xs us gs : List Bool) → length us ≡ length gs → xor_onto (xor_onto xs us) gs ≡ xor_onto xs (xor_onto us gs)
unfolding xor_onto
xor_onto-twice [] us gs e = refl
xor_onto-twice (x ∷ xs) [] [] e = refl
xor_onto-twice (x ∷ xs) [] (g ∷ gs) e = absurd (omega arith)
xor_onto-twice (x ∷ xs) (u ∷ us) [] e = absurd (omega arith)
xor_onto-twice (x ∷ xs) (u ∷ us) (g ∷ gs) e = rw (xor_assoc x u g, xor_onto-twice xs us gs (omega arith)) refl

-- the effect of one step on the shifted register ts
fold_in : (g xs ts : List Bool) (b : Bool) → length g ≡ suc (length ts) →
    cond b (xor_onto (xor_onto xs ts) g) (xor_onto xs ts) ≡ xor_onto xs (cond b (xor_onto (ts ++ (false ∷ [])) g) (ts ++ (false ∷ [])))
fold_in g xs ts true e =
    ap (λ zs. xor_onto zs g) (sym (xor_onto-false xs ts)) ∙ xor_onto-twice xs (ts ++ (false ∷ [])) g (omega (arith, length-append ts (false ∷ [])))
fold_in g xs ts false e = sym (xor_onto-false xs ts)

-- one step: the register t ∷ ts takes the input bit x
pub divide_step : (n : ℕ) (g xs ts : List Bool) (x t : Bool) → length g ≡ suc (length ts) →
    divide (suc n) g (xor_onto (x ∷ xs) (t ∷ ts)) ≡ divide n g (xor_onto xs (cond (xor x t) (xor_onto (ts ++ (false ∷ [])) g) (ts ++ (false ∷ []))))
unfolding divide xor_onto
divide_step n g xs ts x t e = ap (divide n g) (fold_in g xs ts (xor x t) e)

bits_of-next : (k g r : ℕ) (b : Bool) →
    cond b (xor_onto (bits_of k r ++ (false ∷ [])) (bits_of (suc k) g)) (bits_of k r ++ (false ∷ [])) ≡ bits_of (suc k) (cond b (bit_xor ((r * 2) % 2 ^ suc k) g) ((r * 2) % 2 ^ suc k))
bits_of-next k g r true = rw (← (bits_of-double (suc k) k r (omega arith))) (sym (bits_of-xor (suc k) ((r * 2) % 2 ^ suc k) g))
bits_of-next k g r false = sym (bits_of-double (suc k) k r (omega arith))

bits_of-suc : (w r : ℕ) → bits_of (suc w) r ≡ eqb (bit_at r w) 1 ∷ bits_of w r
bits_of-suc w r = refl

pub divide_next : (k g r n : ℕ) (xs : List Bool) (x : Bool) →
    divide (suc n) (bits_of (suc k) g) (xor_onto (x ∷ xs) (bits_of (suc k) r)) ≡ divide n (bits_of (suc k) g) (xor_onto xs (bits_of (suc k) (next k g r x)))
divide_next k g r n xs x =
    ap (λ ts. divide (suc n) (bits_of (suc k) g) (xor_onto (x ∷ xs) ts)) (bits_of-suc k r)
    ∙ divide_step n (bits_of (suc k) g) xs (bits_of k r) x (eqb (bit_at r k) 1) (length-bits_of (suc k) g ∙ ap suc (sym (length-bits_of k r)))
    ∙ ap (λ ts. divide n (bits_of (suc k) g) (xor_onto xs ts)) (bits_of-next k g r (xor x (eqb (bit_at r k) 1)))

-- the loop invariant after i bits
pub record Kept (k g : ℕ) (bits : List Bool) (i r : ℕ) : Type 0 where
  pub rest : divide (length bits - i) (bits_of (suc k) g) (xor_onto (drop i bits ++ replicate (suc k) false) (bits_of (suc k) r)) ≡ remainder (suc k) (bits_of (suc k) g) bits

bits_of-none : (w : ℕ) → bits_of w 0 ≡ replicate w false
bits_of-none zero = refl
bits_of-none (suc w) = rw (bit_at-zero w, bits_of-none w) refl

xor_onto-zeros : (xs : List Bool) (w : ℕ) → xor_onto xs (replicate w false) ≡ xs
unfolding xor_onto
xor_onto-zeros [] w = refl
xor_onto-zeros (x ∷ xs) zero = refl
xor_onto-zeros (x ∷ xs) (suc w) = rw (xor-false x, xor_onto-zeros xs w) refl

zeros-xor_onto : (ts : List Bool) → xor_onto (replicate (length ts) false) ts ≡ ts
unfolding xor_onto
zeros-xor_onto [] = refl
zeros-xor_onto (t ∷ ts) = rw (false-xor t, zeros-xor_onto ts) refl

pub kept_none : (k g : ℕ) (bits : List Bool) → Kept k g bits 0 0
unfolding remainder
kept_none k g bits = record {
  rest =
      ap (λ ts. divide (length bits - 0) (bits_of (suc k) g) (xor_onto (bits ++ replicate (suc k) false) ts)) (bits_of-none (suc k))
      ∙ ap (divide (length bits - 0) (bits_of (suc k) g)) (xor_onto-zeros (bits ++ replicate (suc k) false) (suc k))
      ∙ ap (λ n. divide n (bits_of (suc k) g) (bits ++ replicate (suc k) false)) (omega arith);
}

pub kept_more : (k g : ℕ) (bits : List Bool) (i r : ℕ) (x : Bool) → i < length bits → x ≡ get_or bits i false → Kept k g bits i r → Kept k g bits (i + 1) (next k g r x)
kept_more k g bits i r x l e h =
    let n : length bits - i ≡ suc (length bits - (i + 1)) = omega arith in
    let m : suc i ≡ i + 1 = omega arith in
    let d : drop i bits ≡ x ∷ drop (i + 1) bits = drop-cons bits i false l ∙ ap₂ (λ (b : Bool) (n : ℕ). b ∷ drop n bits) (sym e) m in
    record {
      rest =
          sym (divide_next k g r (length bits - (i + 1)) (drop (i + 1) bits ++ replicate (suc k) false) x)
          ∙ ap₂ (λ (n : ℕ) (xs : List Bool). divide n (bits_of (suc k) g) (xor_onto (xs ++ replicate (suc k) false) (bits_of (suc k) r))) (sym n) (sym d)
          ∙ h.rest;
    }

pub kept_all : (k g : ℕ) (bits : List Bool) (i r : ℕ) → length bits ≤ i → r < 2 ^ suc k → Kept k g bits i r → r ≡ number (remainder (suc k) (bits_of (suc k) g) bits)
unfolding divide
kept_all k g bits i r l f h =
    let n : length bits - i ≡ 0 = omega arith in
    let d : drop i bits ≡ [] = drop_of_length-le bits l in
    let e : xor_onto (drop i bits ++ replicate (suc k) false) (bits_of (suc k) r) ≡ bits_of (suc k) r =
    ap₂ (λ (xs : List Bool) (w : ℕ). xor_onto (xs ++ replicate w false) (bits_of (suc k) r)) d (sym (length-bits_of (suc k) r)) ∙ zeros-xor_onto (bits_of (suc k) r) in
    let a : bits_of (suc k) r ≡ remainder (suc k) (bits_of (suc k) g) bits =
    sym (ap₂ (λ (n : ℕ) (xs : List Bool). divide n (bits_of (suc k) g) xs) n e) ∙ h.rest in
    sym (ap number (sym a) ∙ number-bits_of (suc k) r ∙ mod-eq_of_lt f)
