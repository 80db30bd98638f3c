-- The soft values of a subframe's resource blocks determine the transport block that was sent (PDSCH, TS 36.211 section
-- 6.4, TS 36.212 sections 5.1.3.2 and 5.1.4.1). (own)
use Rattle.std.specs.Prelude.{◌≡◌, ℕ, ◌+◌, ◌*◌, ◌<◌, ◌≤◌, Bool, true, List, length, ℤ, Some}
use Rattle.cs_num.specs.declared.Cpx.{Cpx}
use Rattle.cs_bits.specs.Checks.{message_of, has_check_24}
use Rattle.turbo_code.specs.declared.rows.Row.{Row}
use Rattle.turbo_code.specs.Table.{IsAnyRow}
use Rattle.turbo_code.specs.Encoder.{coded}
use Rattle.turbo_code.specs.Reading.{bit_of, item_of, summed}
use Rattle.turbo_dec.specs.Block.{block}
use Rattle.lte_types.specs.declared.carrier.Carrier.TheVariants.{OnePort}
use Rattle.grid_map.specs.Shared.{shared_places_of}
use Rattle.soft_bits.specs.Soft.{SeenSlot}
use Rattle.pdsch.specs.Values.{shared_values}
use Rattle.erasure.specs.Known.{resolvable, sent_of}
use Rattle.turbo_convergence.specs.Conveys.{SumsSupport, SumsConvey}
use Rattle.clean_air.specs.Carried.{AreHeard}
use Rattle.clean_air.specs.Subframe.{IsSubframeHeard, shared_scrambled, AreSlotsHeard, CarryInSubframe}

-- bit `i` of the sequence after rate matching of information word `word` with redundancy version `rv` (TS 36.212
-- section 5.1.4.1.2)
abbrev pub matched_bit : Row → ℕ → List Bool → ℕ → Bool
matched_bit row rv word i = bit_of (coded row word) (item_of row.k rv i)

-- An information word of the size that `row` gives, with a passing CRC, is resolved by its first `count` bits after
-- rate matching. Every word is resolved if these bits contain every coded bit.
pub record IsSentBlock (row : Row) (rv count : ℕ) (word : List Bool) : Type 0 where
  pub is_row : IsAnyRow row
  pub version : rv < 4
  pub size : length word ≡ row.k
  pub passes : has_check_24 word ≡ true
  pub resolvable : resolvable row (sent_of row.k rv count) word ≡ true

-- Soft values determine a word. `sums`: the sums of soft values by coded bit have the signs of the sent bits, and are 0
-- for bits that were not sent. `whole`: if there are at least as many values as coded bits, no sum is 0. `decoded`: the
-- decoded block is the word without its CRC.
pub record DecodesBlock (row : Row) (rv : ℕ) (word : List Bool) (values : List ℤ) : Type 0 where
  pub sums : SumsConvey row word (sent_of row.k rv (length values)) (summed row.k rv values)
  pub whole : 3 * (row.k + 4) ≤ length values → SumsSupport 1 row word (summed row.k rv values)
  pub decoded : block row (summed row.k rv values) ≡ Some (message_of 24 word)

-- a law: soft values determine an information word with a passing CRC, which the sent bits resolve, if each value has
-- the sign of the bit that was sent at its position
abbrev pub HeardBlockIsDecoded : Type 0
HeardBlockIsDecoded = (row : Row) (rv count : ℕ) (word : List Bool) (values : List ℤ) → IsSentBlock row rv count word →
    AreHeard 1 count (matched_bit row rv word) values → DecodesBlock row rv word values

-- a law: the soft values in a subframe's resource blocks determine the information word, which the sent bits resolve,
-- if each resource element's two soft values have the signs of the word's scrambled bits there
abbrev pub HeardSubframeDecodes : Type 0
HeardSubframeDecodes =
    (first second : SeenSlot) (cfi start blocks : ℕ) (row : Row) (rv : ℕ) (word : List Bool) →
    let places = shared_places_of OnePort first.identity cfi start blocks in
    IsSentBlock row rv (2 * length places) word →
    IsSubframeHeard first second places (shared_scrambled first (matched_bit row rv word)) →
    DecodesBlock row rv word (shared_values first second cfi start blocks)

-- a law: the soft values in a subframe's resource blocks determine the information word, which the sent bits resolve,
-- if both slots have correct soft values and the blocks' resource elements carry the word's scrambled bits
abbrev pub CarriedBlockIsDecoded : Type 0
CarriedBlockIsDecoded =
    (grids : ℕ → ℕ → Cpx) (first second : SeenSlot) (cfi start blocks : ℕ) (row : Row) (rv : ℕ) (word : List Bool) →
    let places = shared_places_of OnePort first.identity cfi start blocks in
    IsSentBlock row rv (2 * length places) word → AreSlotsHeard grids first second →
    CarryInSubframe grids places (shared_scrambled first (matched_bit row rv word)) →
    DecodesBlock row rv word (shared_values first second cfi start blocks)
