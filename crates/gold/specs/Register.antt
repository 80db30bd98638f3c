-- A linear feedback shift register. Its bits are a window on its sequence, the oldest bit first. (own)
use Rattle.std.specs.Prelude.{ℕ, zero, suc, ◌/◌, Bool, false, List, [], ◌∷◌, ◌++◌, get_or}
use Rattle.finite.specs.Bits.{xor, odd}

-- the XOR of the register's bits at the taps
unfoldable pub sum_at : List ℕ → List Bool → Bool
sum_at [] bits = false
sum_at (tap ∷ taps) bits = xor (get_or bits tap false) (sum_at taps bits)

-- the register after one step: the oldest bit leaves, and the XOR of the bits at the taps enters
unfoldable pub step : List ℕ → List Bool → List Bool
step taps [] = []
step taps (bit ∷ bits) = bits ++ sum_at taps (bit ∷ bits) ∷ []

-- the register after n steps from the register `start`
unfoldable pub window : List ℕ → List Bool → ℕ → List Bool
window taps start zero = start
window taps start (suc n) = step taps (window taps start n)

-- a number's low bits, the least significant first
unfoldable pub low_bits : ℕ → ℕ → List Bool
low_bits zero number = []
low_bits (suc count) number = odd number ∷ low_bits count (number / 2)
