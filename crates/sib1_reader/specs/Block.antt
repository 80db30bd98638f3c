-- The transport block that a grant assigns, decoded from the PDSCH soft values (TS 36.212 section 5.3.2).
use Rattle.std.specs.Prelude.{◌≡◌, ◌+◌, Bool, List, [], ℤ, Option, None, Some, Result, Ok, Err}
use Rattle.lte_types.specs.declared.sib1.Sib1.{Sib1}
use Rattle.lte_types.specs.declared.sib1_reason.Sib1Reason.{Sib1Reason}
use Rattle.lte_types.specs.declared.sib1_reason.Sib1Reason.TheVariants.{NotDecoded}
use Rattle.dci.specs.declared.grant.Grant.{Grant}
use Rattle.turbo_code.specs.declared.rows.Row.{Row}
use Rattle.turbo_code.specs.Table.{IsRow}
use Rattle.turbo_code.specs.Reading.{summed}
use Rattle.turbo_dec.specs.Block.{block}
use Rattle.sib1.specs.Message.{Says}

-- `found` is the transport block decoded from the PDSCH soft values, or none. The block size in the turbo code's table
-- is the grant's size plus 24 CRC bits, and rate matching starts at the grant's redundancy version.
pub record IsBlock (values : List ℤ) (grant : Grant) (found : Option (List Bool)) : Type 0 where
  pub row : Row
  pub is_row : IsRow row
  pub size : row.k ≡ grant.size + 24
  pub decodes : block row (summed row.k grant.rv values) ≡ found

-- the PDSCH soft values decode to a transport block, and `answer` is read from its bits
pub record BlockSays (values : List ℤ) (grant : Grant) (answer : Result Sib1 Sib1Reason) : Type 0 where
  pub bits : List Bool
  pub is : IsBlock values grant (Some bits)
  pub says : Says bits answer

-- `answer` is the SIB1 fields in the transport block, or the first reason why there are none
abbrev pub Decodes : List ℤ → Grant → Result Sib1 Sib1Reason → Type 0
Decodes values grant (Err NotDecoded) = IsBlock values grant None
Decodes values grant answer = BlockSays values grant answer

-- `bits` are the transport block that carries the SIB1 fields in `answer`; there are no bits without fields
abbrev pub IsAnswerBlock : List ℤ → Grant → Result Sib1 Sib1Reason → List Bool → Type 0
IsAnswerBlock values grant (Ok fields) bits = IsBlock values grant (Some bits)
IsAnswerBlock values grant (Err reason) bits = bits ≡ []
