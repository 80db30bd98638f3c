-- Windows on a sequence: each bit, and the recurrence.
use Rattle.std.proofs.Common.{ℕ, zero, suc, ◌+◌, ◌<◌, ◌≡◌, Bool, false, List, [], ◌∷◌, ◌++◌, length, get_or, refl, ap, sym, ◌∙◌, arith, length-append, add-zero}
use Rattle.std.proofs.lemmas.List.{get_or_append_left}
use Rattle.gold.specs.Register.{sum_at, step, window}

length-step : (taps : List ℕ) (bits : List Bool) → length (step taps bits) ≡ length bits
unfolding step
length-step taps [] = refl
length-step taps (bit ∷ bits) = omega (arith, length-append bits (sum_at taps (bit ∷ bits) ∷ []))

pub length-window : (taps : List ℕ) (start : List Bool) (n : ℕ) → length (window taps start n) ≡ length start
unfolding window
length-window taps start zero = refl
length-window taps start (suc n) = length-step taps (window taps start n) ∙ length-window taps start n

-- a step moves each bit forward by one position
get_or-step : (taps : List ℕ) (bits : List Bool) (i : ℕ) → suc i < length bits → get_or (step taps bits) i false ≡ get_or bits (suc i) false
unfolding step
get_or-step taps [] i inside = absurd (omega arith)
get_or-step taps (bit ∷ bits) i inside = get_or_append_left bits (sum_at taps (bit ∷ bits) ∷ []) false i (omega arith)

-- bit i of the window at n is the first bit of the window at n + i
pub get_or-window : (taps : List ℕ) (start : List Bool) (i n : ℕ) → i < length start → get_or (window taps start n) i false ≡ get_or (window taps start (n + i)) 0 false
unfolding window
get_or-window taps start zero n inside = ap (λ (k : ℕ). get_or (window taps start k) 0 false) (sym (add-zero n))
get_or-window taps start (suc i) n inside =
    sym (get_or-step taps (window taps start n) i (omega (arith, length-window taps start n)))
    ∙ get_or-window taps start i (suc n) (omega arith)
    ∙ ap (λ (k : ℕ). get_or (window taps start k) 0 false) (omega arith)

get_or-last : (bits : List Bool) (bit : Bool) → get_or (bits ++ (bit ∷ [])) (length bits) false ≡ bit
get_or-last [] bit = refl
get_or-last (b ∷ bits) bit = get_or-last bits bit

step-last : (taps : List ℕ) (bits : List Bool) (w : ℕ) → length bits ≡ suc w → get_or (step taps bits) w false ≡ sum_at taps bits
unfolding step
step-last taps [] w long = absurd (omega arith)
step-last taps (bit ∷ bits) w long =
    let last : w ≡ length bits = omega arith in
    ap (λ (k : ℕ). get_or (bits ++ (sum_at taps (bit ∷ bits) ∷ [])) k false) last ∙ get_or-last bits (sum_at taps (bit ∷ bits))

-- for w + 1 register bits, bit n + w + 1 is the XOR at the taps from n
pub recurrence : (taps : List ℕ) (start : List Bool) (w n : ℕ) → length start ≡ suc w → get_or (window taps start (n + suc w)) 0 false ≡ sum_at taps (window taps start n)
unfolding window
recurrence taps start w n long =
    let place : n + suc w ≡ suc n + w = omega arith in
    ap (λ (k : ℕ). get_or (window taps start k) 0 false) place
    ∙ sym (get_or-window taps start w (suc n) (omega arith))
    ∙ step-last taps (window taps start n) w (length-window taps start n ∙ long)
