-- Soft values and sums with the sent bits' signs. (own; the code and its reading order are in TS 36.212 sections
-- 5.1.3.2 and 5.1.4.1)
use Rattle.std.specs.Prelude.{◌≡◌, ℕ, ◌+◌, ◌*◌, ◌<◌, Bool, true, false, List, length, ℤ, pos}
use Rattle.finite.specs.Tables.{sum_at}
use Rattle.cs_bits.specs.Signs.{Supports}
use Rattle.sub_block.specs.Items.{item}
use Rattle.turbo_code.specs.declared.rows.Row.{Row}
use Rattle.turbo_code.specs.Encoder.{bit_at, parity, tail_x, tail_z, coded}
use Rattle.turbo_code.specs.Reading.{bit_of, item_of}
use Rattle.turbo_dec.specs.Decoder.{Values, at}
use Rattle.erasure.specs.Known.{Sent}

-- the value `z` has the sign of `bit` (above 0 for 0, below 0 for 1) if the bit is present, and is 0, an erasure, if
-- the bit is not present
abbrev pub Conveys : Bool → Bool → ℤ → Type 0
Conveys false bit z = z ≡ pos 0
Conveys true bit z = Supports 1 bit z

-- ---- one constituent decoder

-- each value and prior of a constituent decoder is 0 or has the sign of its bit in `word` or in the tail of `word`
pub record AllAllow (word : List Bool) (v : Values) : Type 0 where
  pub size : length v.systematic ≡ length word
  pub systematic : (k : ℕ) → k < length word → Supports 0 (bit_at word k) (at v.systematic k)
  pub parity : (k : ℕ) → k < length word → Supports 0 (parity word k) (at v.parity k)
  pub tail_x : (j : ℕ) → j < 3 → Supports 0 (tail_x word j) (at v.tail (2 * j))
  pub tail_z : (j : ℕ) → j < 3 → Supports 0 (tail_z word j) (at v.tail (2 * j + 1))
  pub prior : (k : ℕ) → k < length word → Supports 0 (bit_at word k) (at v.prior k)

-- each value of a constituent decoder has the sign of its bit if the bit is `sent`, each prior has the sign of its bit
-- if the bit is `known`, and all other values and priors are 0; the bits are those of `word` and its tail
pub record AllConvey (word : List Bool) (sent : Sent) (known : ℕ → Bool) (v : Values) : Type 0 where
  pub size : length v.systematic ≡ length word
  pub systematic : (k : ℕ) → k < length word → Conveys (sent.information k) (bit_at word k) (at v.systematic k)
  pub parity : (k : ℕ) → k < length word → Conveys (sent.parity k) (parity word k) (at v.parity k)
  pub tail_x : (j : ℕ) → j < 3 → Conveys (sent.tail (2 * j)) (tail_x word j) (at v.tail (2 * j))
  pub tail_z : (j : ℕ) → j < 3 → Conveys (sent.tail (2 * j + 1)) (tail_z word j) (at v.tail (2 * j + 1))
  pub prior : (k : ℕ) → k < length word → Conveys (known k) (bit_at word k) (at v.prior k)

-- ---- the sums of a block

-- each of the `sums` has its coded bit's sign and a magnitude of at least `least`; if `least` is 0, a sum may be 0
abbrev pub SumsSupport : ℕ → Row → List Bool → List (List ℤ) → Type 0
SumsSupport least row word sums =
    (t p : ℕ) → t < 3 → p < row.k + 4 → Supports least (bit_of (coded row word) (item t p)) (sum_at sums t p)

-- the `sums` have the signs of the coded bits that are `sent`, and are 0 elsewhere
abbrev pub SumsConvey : Row → List Bool → (ℕ → ℕ → Bool) → List (List ℤ) → Type 0
SumsConvey row word sent sums =
    (t p : ℕ) → t < 3 → p < row.k + 4 → Conveys (sent t p) (bit_of (coded row word) (item t p)) (sum_at sums t p)

-- ---- received values

-- each received value has the sign of the coded bit that redundancy version `rv` sends at its position, and a magnitude
-- of at least `least`
abbrev pub ValuesSupport : ℕ → Row → List Bool → ℕ → List ℤ → Type 0
ValuesSupport least row word rv values =
    (i : ℕ) → i < length values → Supports least (bit_of (coded row word) (item_of row.k rv i)) (at values i)
