-- Polynomials modulo 2 as lists of coefficients, the highest power first, and the remainders that are LTE's CRCs (TS
-- 36.212 section 5.1.1).
use Rattle.std.specs.Prelude.{ℕ, zero, suc, Bool, false, ◌||◌, cond, List, [], ◌∷◌, ◌++◌, length, replicate, nat_eq}
use Rattle.finite.specs.Bits.{xor}

-- a dividend with a divisor's coefficients added, modulo 2, to its highest coefficients
unfoldable pub xor_onto : List Bool → List Bool → List Bool
xor_onto [] gs = []
xor_onto (x ∷ xs) [] = x ∷ xs
xor_onto (x ∷ xs) (g ∷ gs) = xor x g ∷ xor_onto xs gs

-- the remainder of a dividend after n steps of long division; `divisor` is written without its leading 1. If the
-- dividend's highest coefficient is 1, the divisor is subtracted, which modulo 2 is addition.
unfoldable pub divide : ℕ → List Bool → List Bool → List Bool
divide zero divisor xs = xs
divide (suc n) divisor [] = []
divide (suc n) divisor (x ∷ xs) = divide n divisor (cond x (xor_onto xs divisor) xs)

-- the remainder of D^w times `message` modulo `divisor`, which has degree w, as w coefficients
unfoldable pub remainder : ℕ → List Bool → List Bool → List Bool
remainder w divisor message = divide (length message) divisor (message ++ replicate w false)

-- whether `k` is in a list of powers
unfoldable pub has_power : List ℕ → ℕ → Bool
has_power [] k = false
has_power (p ∷ ps) k = nat_eq p k || has_power ps k

-- the coefficients below D^w of a polynomial that is the sum of D raised to each of the powers `ps`
unfoldable pub powers_below : ℕ → List ℕ → List Bool
powers_below zero ps = []
powers_below (suc w) ps = has_power ps w ∷ powers_below w ps

-- D^16 + D^12 + D^5 + 1, without its leading term
unfoldable pub generator_16 : List Bool
generator_16 = powers_below 16 (12 ∷ 5 ∷ 0 ∷ [])

-- D^24 + D^23 + D^18 + D^17 + D^14 + D^11 + D^10 + D^7 + D^6 + D^5 + D^4 + D^3 + D + 1, without its leading term
unfoldable pub generator_24a : List Bool
generator_24a = powers_below 24 (23 ∷ 18 ∷ 17 ∷ 14 ∷ 11 ∷ 10 ∷ 7 ∷ 6 ∷ 5 ∷ 4 ∷ 3 ∷ 1 ∷ 0 ∷ [])
