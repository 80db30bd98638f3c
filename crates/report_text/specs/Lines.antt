-- The lines of a cell list. Numbers are decimal, and every line ends with a line feed. (own)
use Rattle.std.specs.Prelude.{ℕ, ℤ, List, ◌++◌, length, codes, Result, Ok, Err}
use Rattle.std.specs.List.{flat_map}
use Rattle.std.specs.Fmt.{decimal, signed_decimal}
use Rattle.lte_types.specs.declared.mib.Mib.{Mib}
use Rattle.lte_types.specs.declared.plmn.Plmn.{Plmn}
use Rattle.lte_types.specs.declared.si_message.SiMessage.{SiMessage}
use Rattle.lte_types.specs.declared.sib1.Sib1.{Sib1}
use Rattle.lte_types.specs.declared.sib1_reason.Sib1Reason.{Sib1Reason}
use Rattle.lte_types.specs.declared.entry.Entry.{Entry}
use Rattle.lte_types.specs.Block.{br, rest}
use Rattle.lte_types.specs.Codes.{bandwidth_word, duration_word, period_word, resource_word, window_word}
use Rattle.lte_types.specs.Reasons.{reason_words}
use Rattle.report_parts.specs.Words.{mnc_word}
use Rattle.report_text.specs.Words.{or_dash, bit_word, barred_word, intra_word, reserved_word}
use Rattle.report_parts.specs.Words.{digits_word}
use Rattle.report_text.specs.Words.{tdd_word, sibs_word}

-- the start of a cell's line: its identity, frame start, frame number and antenna port count
abbrev pub place_part : ℕ → ℕ → ℕ → ℕ → List ℕ
place_part id start sfn ports =
    codes "cell " ++ decimal id ++ codes " at " ++ decimal start ++ codes " sfn " ++ decimal sfn ++ codes " ports "
    ++ decimal ports

-- the rest of a cell's line: its MIB; schedulingInfoSIB1-BR (`br`) precedes the bits that are still spare
abbrev pub block_part : List ℕ → List ℕ → List ℕ → ℕ → ℕ → List ℕ
block_part bandwidth duration resource br spare =
    codes " " ++ bandwidth ++ codes " phich " ++ duration ++ codes " " ++ resource ++ codes " br " ++ decimal br
    ++ codes " spare " ++ decimal spare ++ codes "\n"

abbrev pub block_part_of : Mib → List ℕ
block_part_of mib =
    block_part (bandwidth_word mib.bandwidth) (duration_word mib.duration) (resource_word mib.resource) (br mib)
    (rest mib)

abbrev pub cell_line : Entry → List ℕ
cell_line entry = place_part entry.id entry.start entry.sfn entry.ports ++ block_part_of entry.mib

-- the line with the reason why a cell has no system information
abbrev pub none_line : Sib1Reason → List ℕ
none_line reason = codes "sib1 none " ++ reason_words reason ++ codes "\n"

-- ---- system information

-- the start of the `sib1` line: the tracking area code, the 28-bit cellIdentity, cellBarred and intraFreqReselection
abbrev pub access_part : ℕ → ℕ → List ℕ → List ℕ → List ℕ
access_part tac cell barred intra =
    codes "sib1 tac " ++ decimal tac ++ codes " cell " ++ decimal cell ++ codes " " ++ barred ++ codes " " ++ intra

abbrev pub access_part_of : Sib1 → List ℕ
access_part_of sib1 = access_part sib1.tac sib1.cell (barred_word sib1.barred) (intra_word sib1.intra)

-- the next part of the `sib1` line: csg-Indication and csg-Identity
abbrev pub group_part : List ℕ → List ℕ → List ℕ
group_part csg identity = codes " csg " ++ csg ++ codes " " ++ identity

abbrev pub group_part_of : Sib1 → List ℕ
group_part_of sib1 = group_part (bit_word sib1.csg) (or_dash decimal sib1.csg_identity)

-- the next part of the `sib1` line: q-RxLevMin, q-RxLevMinOffset, p-Max and freqBandIndicator
abbrev pub level_part : ℤ → List ℕ → List ℕ → ℕ → List ℕ
level_part level offset power band =
    codes " rx " ++ signed_decimal level ++ codes " offset " ++ offset ++ codes " pmax " ++ power ++ codes " band "
    ++ decimal band

abbrev pub level_part_of : Sib1 → List ℕ
level_part_of sib1 =
    level_part sib1.q_rx (or_dash decimal sib1.q_offset) (or_dash signed_decimal sib1.p_max) sib1.band

-- the end of the `sib1` line: si-WindowLength, systemInfoValueTag, the TDD configuration, and whether an extension
-- follows
abbrev pub window_part : List ℕ → ℕ → List ℕ → List ℕ → List ℕ
window_part window tag tdd extension =
    codes " window " ++ window ++ codes " tag " ++ decimal tag ++ codes " tdd " ++ tdd
    ++ codes " extension " ++ extension ++ codes "\n"

abbrev pub window_part_of : Sib1 → List ℕ
window_part_of sib1 =
    window_part (window_word sib1.window) sib1.tag (or_dash tdd_word sib1.tdd) (bit_word sib1.extended)

abbrev pub sib1_line : Sib1 → List ℕ
sib1_line sib1 = access_part_of sib1 ++ group_part_of sib1 ++ level_part_of sib1 ++ window_part_of sib1

-- the line of a network: its country code, its network code, and whether the cell is reserved for operator use
abbrev pub network_line : List ℕ → List ℕ → List ℕ → List ℕ
network_line mcc mnc reserved = codes "plmn " ++ mcc ++ codes " " ++ mnc ++ codes " " ++ reserved ++ codes "\n"

abbrev pub plmn_line : Plmn → List ℕ
plmn_line plmn = network_line (or_dash digits_word plmn.mcc) (mnc_word plmn.mnc) (reserved_word plmn.reserved)

-- the line of a schedule entry: the period and the block codes of a system information message
abbrev pub schedule_line : List ℕ → List ℕ → List ℕ
schedule_line period sibs = codes "si " ++ period ++ codes " " ++ sibs ++ codes "\n"

abbrev pub message_line : SiMessage → List ℕ
message_line message = schedule_line (period_word message.period) (sibs_word message.sibs)

abbrev pub sib1_lines : Sib1 → List ℕ
sib1_lines sib1 = sib1_line sib1 ++ flat_map plmn_line sib1.plmns ++ flat_map message_line sib1.scheduling

-- ---- the cell list

-- the lines for system information, or the line with the reason why there is none
abbrev pub system_lines : Result Sib1 Sib1Reason → List ℕ
system_lines (Ok sib1) = sib1_lines sib1
system_lines (Err reason) = none_line reason

-- the lines of a list entry: the cell's own line, then those for its system information
abbrev pub entry_lines : Entry → List ℕ
entry_lines entry = cell_line entry ++ system_lines entry.sib1

abbrev pub head_line : ℕ → List ℕ
head_line count = codes "cells " ++ decimal count ++ codes "\n"

-- the text of a cell list: the line with the number of cells, then the lines of each cell
unfoldable pub report_text : List Entry → List ℕ
report_text entries = head_line (length entries) ++ flat_map entry_lines entries

-- ---- synthetic recordings

-- the line of a synthetic recording: the sent cell's identity, its first frame's start and number, and the number of
-- list entries that match it
abbrev pub made_line : ℕ → ℕ → ℕ → ℕ → List ℕ
made_line id start sfn held =
    codes "made " ++ decimal id ++ codes " at " ++ decimal start ++ codes " sfn " ++ decimal sfn ++ codes " held "
    ++ decimal held ++ codes "\n"
