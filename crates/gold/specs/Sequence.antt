-- The two LFSR sequences that make up a length-31 Gold sequence (TS 36.211 section 7.2).
use Rattle.std.specs.Prelude.{ℕ, Bool, true, false, List, [], ◌∷◌, get_or, replicate}
use Rattle.gold.specs.Register.{window, low_bits}

-- the taps of x1, from its recurrence x1(n + 31) = x1(n + 3) + x1(n), modulo 2
unfoldable pub x1_taps : List ℕ
x1_taps = 3 ∷ 0 ∷ []

-- the first 31 bits of x1: x1(0) = 1, and x1(1) to x1(30) are 0
unfoldable pub x1_start : List Bool
x1_start = true ∷ replicate 30 false

-- the taps of x2, from its recurrence x2(n + 31) = x2(n + 3) + x2(n + 2) + x2(n + 1) + x2(n), modulo 2
unfoldable pub x2_taps : List ℕ
x2_taps = 3 ∷ 2 ∷ 1 ∷ 0 ∷ []

-- the first 31 bits of x2: x2(n) is bit n of `c_init`
unfoldable pub x2_start : ℕ → List Bool
x2_start c_init = low_bits 31 c_init

-- bit `n` of the LFSR sequence x1
unfoldable pub x1 : ℕ → Bool
x1 n = get_or (window x1_taps x1_start n) 0 false

-- bit `n` of the LFSR sequence x2 for `c_init`
unfoldable pub x2 : ℕ → ℕ → Bool
x2 c_init n = get_or (window x2_taps (x2_start c_init) n) 0 false
