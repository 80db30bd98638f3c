-- The SystemInformationBlockType1 of a description, with each value in its range. (own; ranges of TS 36.331 section
-- 6.2.2)
use Rattle.std.specs.Prelude.{ℕ, ◌-◌, Bool, false, ◌&&◌, nat_eq, nat_le, if◌then◌else◌, List, [], ◌∷◌, length, codes}
use Rattle.std.specs.Prelude.{Option, Some, None, is_some, option_map, option_and_then, pos, negsuc}
use Rattle.serde_json.specs.Data.{Data}
use Rattle.serde_json.specs.Find.{as_bool, as_str}
use Rattle.lte_types.specs.declared.cell_access_related_info.CellAccessRelatedInfo.{CellAccessRelatedInfo}
use Rattle.lte_types.specs.declared.cell_selection_info.CellSelectionInfo.{CellSelectionInfo}
use Rattle.lte_types.specs.declared.mnc.Mnc.{Mnc}
use Rattle.lte_types.specs.declared.mnc.Mnc.TheVariants.{Two, Three}
use Rattle.lte_types.specs.declared.plmn.Plmn.{Plmn}
use Rattle.lte_types.specs.declared.si_message.SiMessage.{SiMessage}
use Rattle.lte_types.specs.declared.sib1.Sib1.{Sib1}
use Rattle.lte_types.specs.Codes.{period_of, window_of}
use Rattle.lte_types.specs.Parts.{sib1_of}
use Rattle.cell_json.specs.Kinds.{◌>>=◌, given, whole_within, natural_within, null_or, list_within, at_key}

-- ---- network identities

-- the digit with character code `code`, or `None` for other characters; `0` to `9` have the codes 48 to 57
abbrev pub digit_of : ℕ → Option ℕ
digit_of code = given (nat_le 48 code && nat_le code 57) (code - 48)

abbrev pub two_digits : List ℕ → Option (List ℕ)
two_digits (a ∷ b ∷ []) = do
  first ← digit_of a
  second ← digit_of b
  Some (first ∷ second ∷ [])
two_digits _ = None

abbrev pub three_digits : List ℕ → Option (List ℕ)
three_digits (a ∷ b ∷ c ∷ []) = do
  first ← digit_of a
  second ← digit_of b
  third ← digit_of c
  Some (first ∷ second ∷ third ∷ [])
three_digits _ = None

-- a mobile country code: a string of three digits
abbrev pub mcc_of : Data → Option (List ℕ)
mcc_of json = option_and_then three_digits (as_str json)

-- a mobile network code: a string of two or three digits
abbrev pub mnc_in : List ℕ → Option Mnc
mnc_in text = if nat_eq (length text) 2 then option_map Two (two_digits text) else option_map Three (three_digits text)

abbrev pub mnc_of : Data → Option Mnc
mnc_of json = option_and_then mnc_in (as_str json)

abbrev pub network_of : Data → Option Plmn
network_of json = do
  mcc ← at_key (null_or mcc_of) (codes "mcc") json
  mnc ← at_key mnc_of (codes "mnc") json
  reserved ← at_key as_bool (codes "reserved") json
  Some (record { mcc = mcc; mnc = mnc; reserved = reserved })

abbrev pub first_has_mcc : List Plmn → Bool
first_has_mcc [] = false
first_has_mcc (first ∷ rest) = is_some first.mcc

-- 1 to 6 network identities, of which the first has a country code
abbrev pub networks_of : Data → Option (List Plmn)
networks_of json = do
  networks ← list_within 1 6 network_of json
  given (first_has_mcc networks) networks

-- ---- the schedule

-- the code of a period, given in frames, 8 to 512, or `None` if there is no such period
abbrev pub period_in : Data → Option ℕ
period_in json = do
  frames ← natural_within 8 512 json
  period_of frames

-- the code of a system information window, given in milliseconds, 1 to 40, or `None` if there is no such window
abbrev pub window_in : Data → Option ℕ
window_in json = do
  milliseconds ← natural_within 1 40 json
  window_of milliseconds

-- a schedule entry: the code of its period, and at most 31 SIB codes from 0 to 79
abbrev pub message_of : Data → Option SiMessage
message_of json = do
  period ← at_key period_in (codes "period") json
  sibs ← at_key (list_within 0 31 (natural_within 0 79)) (codes "sibs") json
  Some (record { period = period; sibs = sibs })

-- ---- SystemInformationBlockType1; a description has no TDD-Config and no extension

-- the fields of cellAccessRelatedInfo, each in its range
abbrev pub access_in : Data → Option CellAccessRelatedInfo
access_in json = do
  plmns ← at_key networks_of (codes "plmns") json
  tac ← at_key (natural_within 0 65535) (codes "tac") json
  cell ← at_key (natural_within 0 268435455) (codes "cell") json
  barred ← at_key as_bool (codes "barred") json
  intra ← at_key as_bool (codes "intra") json
  csg ← at_key as_bool (codes "csg") json
  csg_identity ← at_key (null_or (natural_within 0 134217727)) (codes "csg_identity") json
  Some (record {
    plmns = plmns;
    tac = tac;
    cell = cell;
    barred = barred;
    intra = intra;
    csg = csg;
    csg_identity = csg_identity;
  })

-- the fields of cellSelectionInfo, each in its range: q-RxLevMin and q-RxLevMinOffset
abbrev pub selection_in : Data → Option CellSelectionInfo
selection_in json = do
  q_rx ← at_key (whole_within (negsuc 69) (negsuc 21)) (codes "q_rx") json
  q_offset ← at_key (null_or (natural_within 1 8)) (codes "q_offset") json
  Some (record { q_rx = q_rx; q_offset = q_offset })

unfoldable pub sib1_in : Data → Option Sib1
sib1_in json = do
  access ← access_in json
  selection ← selection_in json
  p_max ← at_key (null_or (whole_within (negsuc 29) (pos 33))) (codes "p_max") json
  band ← at_key (natural_within 1 64) (codes "band") json
  scheduling ← at_key (list_within 1 32 message_of) (codes "scheduling") json
  window ← at_key window_in (codes "window") json
  tag ← at_key (natural_within 0 31) (codes "tag") json
  Some (sib1_of access selection p_max band scheduling None window tag false)
