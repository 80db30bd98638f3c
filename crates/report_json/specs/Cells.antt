-- The cell list as JSON: an array with an object for each cell, with its keys in byte order. (own; the names come from
-- TS 36.331 sections 6.2.2 and 6.3)
use Rattle.std.specs.Prelude.{ℕ, List, [], ◌∷◌, Result, Ok, Err, codes}
use Rattle.serde_json.specs.Data.{Data, boolean, string, object, Members, member, no_members, put}
use Rattle.serde_json.specs.Written.{compact_text}
use Rattle.lte_types.specs.declared.plmn.Plmn.{Plmn}
use Rattle.lte_types.specs.declared.si_message.SiMessage.{SiMessage}
use Rattle.lte_types.specs.declared.sib1.Sib1.{Sib1}
use Rattle.lte_types.specs.declared.sib1_reason.Sib1Reason.{Sib1Reason}
use Rattle.lte_types.specs.declared.mib.Mib.{Mib}
use Rattle.lte_types.specs.declared.entry.Entry.{Entry}
use Rattle.lte_types.specs.Block.{br, rest}
use Rattle.lte_types.specs.Codes.{bandwidth_word, duration_word, period_frames, resource_word, window_length}
use Rattle.lte_types.specs.Reasons.{reason_words}
use Rattle.report_parts.specs.Words.{mnc_word}
use Rattle.report_parts.specs.Fields.{natural, integer, list_of}
use Rattle.report_json.specs.Values.{or_null}
use Rattle.report_parts.specs.Words.{digits_word}

-- the object for a network identity (PLMN); its digits are strings, to keep leading zeros
abbrev pub plmn_value : Plmn → Data
plmn_value plmn = object (
    member (codes "mcc") (or_null (λ digits. string (digits_word digits)) plmn.mcc) (
    member (codes "mnc") (string (mnc_word plmn.mnc)) (
    member (codes "reserved") (boolean plmn.reserved) no_members)))

-- the object for a schedule entry: its period in frames, and its block codes
abbrev pub message_value : SiMessage → Data
message_value message = object (
    member (codes "period") (natural (period_frames message.period)) (
    member (codes "sibs") (list_of natural message.sibs) no_members))

-- the array for a TDD configuration: subframeAssignment and specialSubframePatterns
abbrev pub tdd_value : ℕ × ℕ → Data
tdd_value config = list_of natural (config.0 ∷ config.1 ∷ [])

-- `members`, with a cell's networks, tracking area code, identity and closed subscriber group added
abbrev pub identity_members : Sib1 → Members → Members
identity_members sib1 members =
    put (codes "csg_identity") (or_null natural sib1.csg_identity) (
    put (codes "csg") (boolean sib1.csg) (
    put (codes "cell") (natural sib1.cell) (
    put (codes "tac") (natural sib1.tac) (
    put (codes "plmns") (list_of plmn_value sib1.plmns) members))))

-- `members`, with the access fields, the levels for cell selection and the band added
abbrev pub access_members : Sib1 → Members → Members
access_members sib1 members =
    put (codes "band") (natural sib1.band) (
    put (codes "p_max") (or_null integer sib1.p_max) (
    put (codes "q_offset") (or_null natural sib1.q_offset) (
    put (codes "q_rx") (integer sib1.q_rx) (
    put (codes "intra") (boolean sib1.intra) (
    put (codes "barred") (boolean sib1.barred) members)))))

-- `members`, with the schedule for system information, the window in milliseconds, systemInfoValueTag, the TDD
-- configuration and the extension flag added
abbrev pub schedule_members : Sib1 → Members → Members
schedule_members sib1 members =
    put (codes "extension") (boolean sib1.extended) (
    put (codes "tdd") (or_null tdd_value sib1.tdd) (
    put (codes "tag") (natural sib1.tag) (
    put (codes "window") (natural (window_length sib1.window)) (
    put (codes "scheduling") (list_of message_value sib1.scheduling) members))))

-- the object with all fields of SIB1
abbrev pub sib1_value : Sib1 → Data
sib1_value sib1 = object (schedule_members sib1 (access_members sib1 (identity_members sib1 no_members)))

-- the object with all fields of SIB1, or with the reason why SIB1 was not read
abbrev pub system_value : Result Sib1 Sib1Reason → Data
system_value (Ok sib1) = sib1_value sib1
system_value (Err reason) = object (member (codes "none") (string (reason_words reason)) no_members)

-- `members`, with a cell's identity, frame start, frame number and antenna port count added
abbrev pub cell_members : Entry → Members → Members
cell_members entry members =
    put (codes "ports") (natural entry.ports) (
    put (codes "sfn") (natural entry.sfn) (
    put (codes "at") (natural entry.start) (
    put (codes "identity") (natural entry.id) members)))

-- `members`, with the fields of a cell's MIB added
abbrev pub block_members : Mib → Members → Members
block_members mib members =
    put (codes "spare") (natural (rest mib)) (
    put (codes "br") (natural (br mib)) (
    put (codes "resource") (string (resource_word mib.resource)) (
    put (codes "duration") (string (duration_word mib.duration)) (
    put (codes "bandwidth") (string (bandwidth_word mib.bandwidth)) members))))

-- the members of a cell's object: its identity, timing, antenna port count, MIB and SIB1
abbrev pub entry_members : Entry → Members
entry_members entry =
    put (codes "sib1") (system_value entry.sib1) (block_members entry.mib (cell_members entry no_members))

abbrev pub entry_value : Entry → Data
entry_value entry = object (entry_members entry)

abbrev pub report_value : List Entry → Data
report_value entries = list_of entry_value entries

-- the JSON of a cell list, without spaces
unfoldable pub json_text : List Entry → List ℕ
json_text entries = compact_text (report_value entries)
