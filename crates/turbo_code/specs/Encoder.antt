-- The turbo code's two constituent encoders and their codeword (TS 36.212 section 5.1.3.2).
use Rattle.std.specs.Prelude.{ℕ, zero, suc, ◌-◌, Bool, false, List, [], ◌∷◌, ◌++◌, length, replicate, slice_index_or}
use Rattle.finite.specs.Bits.{xor}
use Rattle.finite.specs.Lists.{values_below}
use Rattle.turbo_code.specs.declared.rows.Row.{Row}
use Rattle.turbo_code.specs.Streams.{in_order}

-- bit `k` of `word`, or 0 past the end
abbrev pub bit_at : List Bool → ℕ → Bool
bit_at word k = slice_index_or word k false

-- the register bit a(k - t), where `past` holds a(k - 1), a(k - 2), .., a(0); before a(0) the bits are 0
abbrev pub back : List Bool → ℕ → Bool
back past t = slice_index_or past (t - 1) false

-- the register's new bit, modulo 2: a(k) = u(k) + a(k - 2) + a(k - 3), where u(k) is the input bit
abbrev pub next : List Bool → Bool → Bool
next past u = xor (xor u (back past 2)) (back past 3)

-- the register bits a(k - 1), .., a(0) of `word`, latest first
unfoldable pub before : List Bool → ℕ → List Bool
before word zero = []
before word (suc k) = next (before word k) (bit_at word k) ∷ before word k

-- the register bit a(k) of `word`
abbrev pub register_bit : List Bool → ℕ → Bool
register_bit word k = next (before word k) (bit_at word k)

-- the parity bit of `word` at index `k`, modulo 2: z(k) = a(k) + a(k - 1) + a(k - 3)
abbrev pub parity : List Bool → ℕ → Bool
parity word k = xor (xor (register_bit word k) (back (before word k) 1)) (back (before word k) 3)

-- the parity bits z(0) to z(K - 1) of a word of K bits
unfoldable pub parities : List Bool → List Bool
parities word = values_below (length word) (parity word)

-- the register bits before tail step `j`, latest first: each tail step has shifted in a 0 after `word`
abbrev pub before_tail : List Bool → ℕ → List Bool
before_tail word j = replicate j false ++ before word (length word)

-- the systematic bit of tail step `j`, modulo 2: x(K + j) = a(K + j - 2) + a(K + j - 3)
unfoldable pub tail_x : List Bool → ℕ → Bool
tail_x word j = xor (back (before_tail word j) 2) (back (before_tail word j) 3)

-- the parity bit of tail step `j`, modulo 2: z(K + j) = a(K + j - 1) + a(K + j - 3), since a(K + j) = 0
unfoldable pub tail_z : List Bool → ℕ → Bool
tail_z word j = xor (back (before_tail word j) 1) (back (before_tail word j) 3)

-- `word` in the second encoder's order
abbrev pub interleaved : Row → List Bool → List Bool
interleaved row word = in_order false row word

-- a stream of the codeword: its K bits, its four tail bits, and zeros up to the length 1,028
abbrev pub stream : List Bool → List Bool → List Bool
stream bits tail = bits ++ tail ++ replicate (1024 - length bits) false

-- the codeword of the word `u`, in three streams: systematic bits, first and second encoder's parity bits, each
-- followed by tail bits
unfoldable pub coded : Row → List Bool → List (List Bool)
coded row u =
    let v = interleaved row u in
    stream u (tail_x u 0 ∷ tail_z u 1 ∷ tail_x v 0 ∷ tail_z v 1 ∷ [])
    ∷ stream (parities u) (tail_z u 0 ∷ tail_x u 2 ∷ tail_z v 0 ∷ tail_x v 2 ∷ [])
    ∷ stream (parities v) (tail_x u 1 ∷ tail_z u 2 ∷ tail_x v 1 ∷ tail_z v 2 ∷ [])
    ∷ []
