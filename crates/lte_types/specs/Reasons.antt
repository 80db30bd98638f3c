-- The text for each reason why SIB1 was not decoded. (own)
use Rattle.std.specs.Prelude.{ℕ, List, ◌++◌, codes}
use Rattle.std.specs.Fmt.{decimal}
use Rattle.lte_types.specs.declared.sib1_reason.Sib1Reason.{Sib1Reason}
use Rattle.lte_types.specs.declared.sib1_reason.Sib1Reason.TheVariants.{NotOnePort, Bandwidth as OtherWidth}
use Rattle.lte_types.specs.declared.sib1_reason.Sib1Reason.TheVariants.{NoSearchSpace, NoControl, NotFormat1A}
use Rattle.lte_types.specs.declared.sib1_reason.Sib1Reason.TheVariants.{Distributed, BadRiv, ReservedMcs, BlockTooLarge}
use Rattle.lte_types.specs.declared.sib1_reason.Sib1Reason.TheVariants.{NotDecoded, NotSib1, BadFields, LongPrefix}
use Rattle.lte_types.specs.declared.sib1_reason.Words.{Words}
use Rattle.lte_types.specs.declared.sib1_reason.Words.TheVariants.{Plain, WithNumber, WithWidth}
use Rattle.lte_types.specs.Codes.{bandwidth_word}

-- the text of a reason: its name, followed by its number or bandwidth if it has one
abbrev pub reason_words : Sib1Reason → List ℕ
reason_words (NotOnePort ports) = codes "ports " ++ decimal ports
reason_words (OtherWidth width) = codes "bandwidth " ++ bandwidth_word width
reason_words (NoSearchSpace count) = codes "no-search-space " ++ decimal count
reason_words NoControl = codes "no-control"
reason_words NotFormat1A = codes "not-1a"
reason_words Distributed = codes "distributed"
reason_words (BadRiv riv) = codes "bad-riv " ++ decimal riv
reason_words (ReservedMcs mcs) = codes "reserved-mcs " ++ decimal mcs
reason_words BlockTooLarge = codes "block-too-large"
reason_words NotDecoded = codes "not-decoded"
reason_words NotSib1 = codes "not-sib1"
reason_words (BadFields bit) = codes "bad-fields " ++ decimal bit
reason_words LongPrefix = codes "long-prefix"

-- the text that the parts of a reason, `Words` in the code, spell together
abbrev pub words_text : Words → List ℕ
words_text (Plain word) = word.now
words_text (WithNumber word number) = word.now ++ decimal number
words_text (WithWidth word width) = word.now ++ bandwidth_word width
