-- An answer together with the transport block that carried the SIB1 fields. (own)
use Rattle.std.specs.Prelude.{Bool, List, [], Result, Ok, Err}
use Rattle.lte_types.specs.declared.sib1.Sib1.{Sib1}
use Rattle.lte_types.specs.declared.sib1_reason.Sib1Reason.{Sib1Reason}
use Rattle.wide_block.specs.declared.block.SystemBlock.{SystemBlock}

-- the SIB1 fields in an answer, or the reason why there are none
abbrev pub fields_in : Result SystemBlock Sib1Reason → Result Sib1 Sib1Reason
fields_in (Ok found) = Ok found.fields
fields_in (Err reason) = Err reason

-- the bits of the transport block in an answer; none without fields
abbrev pub bits_in : Result SystemBlock Sib1Reason → List Bool
bits_in (Ok found) = found.bits.items
bits_in (Err reason) = []
