-- The rate 1/3 tail-biting convolutional code (TS 36.212 section 5.1.3.1).
use Rattle.std.specs.Prelude.{ℕ, ◌+◌, ◌-◌, ◌%◌, Bool, false, List, [], ◌∷◌, length, map, slice_index_or}
use Rattle.finite.specs.Bits.{xor}
use Rattle.finite.specs.Lists.{values_below}

-- a bit list's parity: the sum of its bits modulo 2
abbrev pub parity : List Bool → Bool
parity [] = false
parity (b ∷ bs) = xor b (parity bs)

-- bit k - t of `word`, cyclically
abbrev pub bit_back : List Bool → ℕ → ℕ → Bool
bit_back word k t = slice_index_or word ((k + length word - t) % length word) false

-- the taps of stream 0, from the generator 133 (octal)
abbrev pub taps_0 : List ℕ
taps_0 = 0 ∷ 2 ∷ 3 ∷ 5 ∷ 6 ∷ []

-- the taps of stream 1, from the generator 171 (octal)
abbrev pub taps_1 : List ℕ
taps_1 = 0 ∷ 1 ∷ 2 ∷ 3 ∷ 6 ∷ []

-- the taps of stream 2, from the generator 165 (octal)
abbrev pub taps_2 : List ℕ
taps_2 = 0 ∷ 1 ∷ 2 ∷ 4 ∷ 6 ∷ []

-- bit `k` of the coded stream with the taps `taps`
abbrev pub tapped_bit : List ℕ → List Bool → ℕ → Bool
tapped_bit taps word k = parity (map (bit_back word k) taps)

-- the three coded bits at index `k`, one per stream
abbrev pub coded_bits : List Bool → ℕ → List Bool
coded_bits word k = tapped_bit taps_0 word k ∷ tapped_bit taps_1 word k ∷ tapped_bit taps_2 word k ∷ []

-- the codeword: three coded bits per index
unfoldable pub coded_word : List Bool → List (List Bool)
coded_word word = values_below (length word) (coded_bits word)
