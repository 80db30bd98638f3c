-- The transport block that is decoded from sums by coded bit, and the SIB1 fields in it (TS 36.212 section 5.3.2).
use Rattle.std.specs.Prelude.{◌≡◌, ℕ, Bool, List, ℤ, Option, None, Some, option_and_then, Result, Ok, Err}
use Rattle.lte_types.specs.declared.sib1.Sib1.{Sib1}
use Rattle.lte_types.specs.declared.sib1_reason.Sib1Reason.{Sib1Reason}
use Rattle.lte_types.specs.declared.sib1_reason.Sib1Reason.TheVariants.{BlockTooLarge, NotDecoded}
use Rattle.turbo_code.specs.declared.rows.Row.{Row}
use Rattle.turbo_dec.specs.Block.{block}
use Rattle.sib1.specs.Message.{Says}
use Rattle.wide_block.specs.Sums.{Offer, row_for}

-- `answer` is read from the bits of a transport block; without a block, the reason is that none was decoded
abbrev pub IsReadFrom : Option (List Bool) → Result Sib1 Sib1Reason → Type 0
IsReadFrom None answer = answer ≡ Err NotDecoded
IsReadFrom (Some bits) answer = Says bits answer

-- `answer` is read from the transport block that decodes from `sums` with a row of the turbo code's tables; without a
-- row, the reason is that the block is too large
abbrev pub DecodesBy : Option Row → List (List ℤ) → Result Sib1 Sib1Reason → Type 0
DecodesBy None sums answer = answer ≡ Err BlockTooLarge
DecodesBy (Some row) sums answer = IsReadFrom (block row sums) answer

-- `answer` is the SIB1 fields in the transport block of `size` bits that decodes from `sums`, or the first reason why
-- there are none
abbrev pub Decodes : List (List ℤ) → ℕ → Result Sib1 Sib1Reason → Type 0
Decodes sums size answer = DecodesBy (row_for size) sums answer

-- `answer` is decoded from sums, if there are any; without sums, the reason is that the block is too large
abbrev pub SumsSay : Option (List (List ℤ)) → ℕ → Result Sib1 Sib1Reason → Type 0
SumsSay None size answer = answer ≡ Err BlockTooLarge
SumsSay (Some sums) size answer = Decodes sums size answer

-- `answer` is the SIB1 fields in an offer's transport block, or the first reason why there are none
abbrev pub OfferSays : Offer → Result Sib1 Sib1Reason → Type 0
OfferSays offer answer = SumsSay offer.sums offer.grant.size answer

-- ---- the bits of the block

-- the transport block of `size` bits that decodes from `sums`, without its CRC, if the size has a row and a CRC passes
abbrev pub block_in : List (List ℤ) → ℕ → Option (List Bool)
block_in sums size = option_and_then (λ row. block row sums) (row_for size)

-- an offer's transport block, without its CRC, if one is decoded
abbrev pub offer_block : Offer → Option (List Bool)
offer_block offer = option_and_then (λ sums. block_in sums offer.grant.size) offer.sums

-- `bits` are the transport block that was decoded, and `fields` are the SIB1 fields in them
pub record CarriesFields (decoded : Option (List Bool)) (bits : List Bool) : Type 0 where
  pub fields : Sib1
  pub is : decoded ≡ Some bits
  pub says : Says bits (Ok fields)
