-- Positions of information bits, parity bits and both tails in a codeword's three streams.
use Rattle.std.proofs.Common.{◌≡◌, ℕ, ◌+◌, ◌-◌, ◌<◌, Bool, false, List, [], ◌∷◌, ◌++◌, length, get_or, replicate, ap, sym, ◌∙◌, arith, length-append}
use Rattle.std.proofs.lemmas.List.{get_or-append-add}
use Rattle.std.proofs.Math.ListN.{get_or-append}
use Rattle.finite.proofs.Lists.{values_below-length, values_below_at}
use Rattle.sub_block.specs.Items.{item}
use Rattle.turbo_code.specs.declared.rows.Row.{Row}
use Rattle.turbo_code.specs.Table.{interleaver}
use Rattle.turbo_code.specs.Encoder.{bit_at, parity, parities, tail_x, tail_z, interleaved, stream, coded}
use Rattle.turbo_code.specs.Streams.{in_order}
use Rattle.turbo_code.specs.Reading.{bit_of}

pub length-interleaved : (row : Row) (word : List Bool) → length (interleaved row word) ≡ row.k
unfolding in_order
length-interleaved row word = values_below-length row.k (λ i. bit_at word (interleaver row i))

pub interleaved_at : (row : Row) (word : List Bool) (i : ℕ) → i < row.k → bit_at (interleaved row word) i ≡ bit_at word (interleaver row i)
unfolding in_order
interleaved_at row word i inside = values_below_at (λ i. bit_at word (interleaver row i)) row.k i false inside

parities_at : (word : List Bool) (k : ℕ) → k < length word → get_or (parities word) k false ≡ parity word k
unfolding parities
parities_at word k inside = values_below_at (parity word) (length word) k false inside

length-parities : (word : List Bool) → length (parities word) ≡ length word
unfolding parities
length-parities word = values_below-length (length word) (parity word)

-- ---- a stream

stream_bit : (bits tail : List Bool) (k : ℕ) → k < length bits → get_or (stream bits tail) k false ≡ get_or bits k false
stream_bit bits tail k inside =
    let long = length-append bits tail in
    get_or-append (bits ++ tail) (replicate (1024 - length bits) false) false k (omega (arith, long, inside)) ∙ get_or-append bits tail false k inside

stream_tail : (bits : List Bool) (a b c d : Bool) (n j : ℕ) → length bits ≡ n → j < 4 →
    get_or (stream bits (a ∷ b ∷ c ∷ d ∷ [])) (n + j) false ≡ get_or (a ∷ b ∷ c ∷ d ∷ []) j false
stream_tail bits a b c d n j size inside =
    let long = length-append bits (a ∷ b ∷ c ∷ d ∷ []) in
    get_or-append (bits ++ (a ∷ b ∷ c ∷ d ∷ [])) (replicate (1024 - length bits) false) false (n + j) (omega (arith, long, size, inside))
    ∙ ap (λ m. get_or (bits ++ (a ∷ b ∷ c ∷ d ∷ [])) (m + j) false) (sym size)
    ∙ get_or-append-add bits (a ∷ b ∷ c ∷ d ∷ []) j false

-- ---- the codeword for K bits

module _ (row : Row) (word : List Bool) (size : length word ≡ row.k) where
  pub information_at : (k : ℕ) → k < row.k → bit_of (coded row word) (item 0 k) ≡ bit_at word k
  unfolding coded
  information_at k inside = stream_bit word _ k (omega (arith, size, inside))

  pub first_parity_at : (k : ℕ) → k < row.k → bit_of (coded row word) (item 1 k) ≡ parity word k
  unfolding coded
  first_parity_at k inside =
      let same = length-parities word in
      stream_bit (parities word) _ k (omega (arith, size, same, inside)) ∙ parities_at word k (omega (arith, size, inside))

  pub second_parity_at : (k : ℕ) → k < row.k → bit_of (coded row word) (item 2 k) ≡ parity (interleaved row word) k
  unfolding coded
  second_parity_at k inside =
      let long = length-interleaved row word in
      let same = length-parities (interleaved row word) in
      stream_bit (parities (interleaved row word)) _ k (omega (arith, long, same, inside))
      ∙ parities_at (interleaved row word) k (omega (arith, long, inside))

  pub first_tail_at : (j : ℕ) → j < 4 → bit_of (coded row word) (item 0 (row.k + j)) ≡
      get_or (tail_x word 0 ∷ tail_z word 1 ∷ tail_x (interleaved row word) 0 ∷ tail_z (interleaved row word) 1 ∷ []) j false
  unfolding coded
  first_tail_at j inside = stream_tail word _ _ _ _ row.k j size inside

  pub second_tail_at : (j : ℕ) → j < 4 → bit_of (coded row word) (item 1 (row.k + j)) ≡
      get_or (tail_z word 0 ∷ tail_x word 2 ∷ tail_z (interleaved row word) 0 ∷ tail_x (interleaved row word) 2 ∷ []) j false
  unfolding coded
  second_tail_at j inside = stream_tail (parities word) _ _ _ _ row.k j (length-parities word ∙ size) inside

  pub third_tail_at : (j : ℕ) → j < 4 → bit_of (coded row word) (item 2 (row.k + j)) ≡
      get_or (tail_x word 1 ∷ tail_z word 2 ∷ tail_x (interleaved row word) 1 ∷ tail_z (interleaved row word) 2 ∷ []) j false
  unfolding coded
  third_tail_at j inside =
      stream_tail (parities (interleaved row word)) _ _ _ _ row.k j (length-parities (interleaved row word) ∙ length-interleaved row word) inside
