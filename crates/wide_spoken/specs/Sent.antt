-- What subframe 5 sends of SIB1, at any bandwidth (PCFICH, PDCCH and PDSCH: TS 36.211 sections 6.4, 6.7 and 6.8; their
-- codes: TS 36.212 section 5.1.3).
use Rattle.std.specs.Prelude.{◌≡◌, ℕ, ◌+◌, ◌≤◌, Bool, true, List, ◌∷◌, ◌++◌, length, Some, Ok}
use Rattle.lte_types.specs.declared.sib1.Sib1.{Sib1}
use Rattle.cs_bits.specs.Checks.{message_of, has_check_24}
use Rattle.turbo_code.specs.declared.rows.Row.{Row}
use Rattle.sib1.specs.Message.{Says}
use Rattle.wide_cell.specs.Cell.{Cell}
use Rattle.wide_grid.specs.Control.{element_count}
use Rattle.wide_grant.specs.declared.grant.WideGrant.{WideGrant}
use Rattle.wide_control.specs.Format.{payload_size}
use Rattle.wide_control.specs.Offer.{Conveys}
use Rattle.wide_control.specs.Control.{Search, searches}
use Rattle.wide_block.specs.Sums.{row_for}

-- What is sent: the control format indicator `cfi`; the information word `word`, which `search` decodes, and the
-- searches before and after this one; the word's grant; the grant's transport block with its CRC, for a row of the
-- turbo code's tables; and SIB1's `fields` in the block.
pub record Sent : Type 0 where
  pub cfi : ℕ
  pub before : List Search
  pub search : Search
  pub after : List Search
  pub word : List Bool
  pub grant : WideGrant
  pub row : Row
  pub block : List Bool
  pub fields : Sib1

-- The cell can send the control information in frame `sfn`. `order`: the search is one of the PDCCH's. `size`: the word
-- is a payload and 16 CRC bits. `conveys`: the CRC passes, and the payload has the grant.
pub record IsControlSent (cell : Cell) (sfn : ℕ) (sent : Sent) : Type 0 where
  pub indicator : (1 ≤ sent.cfi) × (sent.cfi ≤ 3)
  pub order : searches (element_count cell sent.cfi) ≡ sent.before ++ sent.search ∷ sent.after
  pub size : length sent.word ≡ payload_size cell.blocks sent.search.format + 16
  pub conveys : Conveys cell.blocks sfn sent.search.format sent.word sent.grant

-- The grant can have the block. `row`: the row is for the grant's size. `passes`: the block ends with its CRC24A.
-- `carries`: the bits before the CRC are SIB1 with the fields.
pub record IsBlockSent (sent : Sent) : Type 0 where
  pub row : row_for sent.grant.size ≡ Some sent.row
  pub size : length sent.block ≡ sent.row.k
  pub passes : has_check_24 sent.block ≡ true
  pub carries : Says (message_of 24 sent.block) (Ok sent.fields)
