-- The fields of SystemInformationBlockType1 in order (TS 36.331 section 6.2.2), each with its width and range in
-- unaligned PER (ITU-T X.691).
use Rattle.std.specs.Prelude.{ℕ, ◌+◌, pos, ℤ, ◌-ℤ◌, not, nat_eq, if◌then◌else◌, List, ◌∷◌}
use Rattle.lte_types.specs.declared.mnc.Mnc.{Mnc}
use Rattle.lte_types.specs.declared.mnc.Mnc.TheVariants.{Two, Three}
use Rattle.lte_types.specs.declared.plmn.Plmn.{Plmn}
use Rattle.lte_types.specs.declared.si_message.SiMessage.{SiMessage}
use Rattle.lte_types.specs.declared.sib1.Sib1.{Sib1}
use Rattle.lte_types.specs.Parts.{sib1_of}
use Rattle.uper.specs.Grammar.{Grammar, done, ◌>>=◌, from_to, flag, if_present, times}
use Rattle.lte_types.specs.declared.cell_access_related_info.CellAccessRelatedInfo.{CellAccessRelatedInfo}
use Rattle.lte_types.specs.declared.cell_selection_info.CellSelectionInfo.{CellSelectionInfo}

-- ---- plmn-IdentityList

-- MCC-MNC-Digit, a decimal digit
abbrev pub digit : Grammar ℕ
digit = from_to 4 0 9

-- MNC: a bit that selects the length, and two or three digits
unfoldable pub mnc : Grammar Mnc
mnc = do
  is_long ← flag
  if is_long then (do
    digits ← times 3 digit
    done (Three digits)) else (do
      digits ← times 2 digit
      done (Two digits))

-- an entry: PLMN-Identity and cellReservedForOperatorUse, where 0 is `reserved`. If `least` is 1, the country code must
-- be present.
unfoldable pub plmn_identity_info : ℕ → Grammar Plmn
plmn_identity_info least = do
  has_mcc ← from_to 1 least 1
  mcc ← if_present (nat_eq has_mcc 1) (times 3 digit)
  mnc ← mnc
  not_reserved ← flag
  done (record { mcc = mcc; mnc = mnc; reserved = not not_reserved })

-- plmn-IdentityList: 1 to 6 entries, the first with a country code
unfoldable pub plmn_identity_list : Grammar (List Plmn)
plmn_identity_list = do
  further ← from_to 3 0 5
  first ← plmn_identity_info 1
  others ← times further (plmn_identity_info 0)
  done (first ∷ others)

-- ---- cellAccessRelatedInfo

-- csg-Identity, 27 bits
abbrev pub csg_identity : Grammar ℕ
csg_identity = from_to 27 0 134217727

-- cellAccessRelatedInfo, where 0 is `barred` for cellBarred and `allowed` for intraFreqReselection
unfoldable pub cell_access_related_info : Grammar CellAccessRelatedInfo
cell_access_related_info = do
  has_csg_identity ← flag
  plmns ← plmn_identity_list
  tracking_area_code ← from_to 16 0 65535
  cell_identity ← from_to 28 0 268435455
  not_barred ← flag
  not_allowed ← flag
  csg_indication ← flag
  csg_identity ← if_present has_csg_identity csg_identity
  done (record {
    plmns = plmns;
    tac = tracking_area_code;
    cell = cell_identity;
    barred = not not_barred;
    intra = not not_allowed;
    csg = csg_indication;
    csg_identity = csg_identity;
  })

-- ---- cellSelectionInfo

-- q-RxLevMinOffset, 1 to 8, in units of 2 dB
unfoldable pub q_rx_lev_min_offset : Grammar ℕ
q_rx_lev_min_offset = do
  n ← from_to 3 0 7
  done (n + 1)

-- cellSelectionInfo: q-RxLevMin, -70 to -22, in units of 2 dBm, and q-RxLevMinOffset
unfoldable pub cell_selection_info : Grammar CellSelectionInfo
cell_selection_info = do
  has_offset ← flag
  q_rx_lev_min ← from_to 6 0 48
  offset ← if_present has_offset q_rx_lev_min_offset
  done (record { q_rx = pos q_rx_lev_min -ℤ pos 70; q_offset = offset })

-- p-Max, -30 to 33 dBm
unfoldable pub p_max : Grammar ℤ
p_max = do
  n ← from_to 6 0 63
  done (pos n -ℤ pos 30)

-- ---- schedulingInfoList

-- SIB-Type: one of 16 codes, or one of 64 further codes in the extension's short form
unfoldable pub sib_type : Grammar ℕ
sib_type = do
  is_extension ← flag
  if is_extension then (do
    is_long ← from_to 1 0 0
    n ← from_to 6 0 63
    done (n + 16)) else from_to 4 0 15

-- the si-Periodicity code, 0 to 6
abbrev pub si_periodicity : Grammar ℕ
si_periodicity = from_to 3 0 6

-- SchedulingInfo: si-Periodicity, and 0 to 31 SIB types in sib-MappingInfo
unfoldable pub scheduling_info : Grammar SiMessage
scheduling_info = do
  period ← si_periodicity
  count ← from_to 5 0 31
  sibs ← times count sib_type
  done (record { period = period; sibs = sibs })

-- schedulingInfoList: 1 to 32 entries
unfoldable pub scheduling_info_list : Grammar (List SiMessage)
scheduling_info_list = do
  further ← from_to 5 0 31
  times (further + 1) scheduling_info

-- ---- tdd-Config: subframeAssignment and specialSubframePatterns

unfoldable pub tdd_config : Grammar (ℕ × ℕ)
tdd_config = do
  subframe_assignment ← from_to 3 0 6
  special_subframe_patterns ← from_to 4 0 8
  done (subframe_assignment, special_subframe_patterns)

-- ---- si-WindowLength, by its code

abbrev pub si_window_length : Grammar ℕ
si_window_length = from_to 3 0 6

-- ---- BCCH-DL-SCH-Message with SystemInformationBlockType1; nonCriticalExtension, if present, follows

unfoldable pub sib1 : Grammar Sib1
sib1 = do
  c1 ← from_to 1 0 0
  system_information_block_type_1 ← from_to 1 1 1
  has_p_max ← flag
  has_tdd_config ← flag
  has_extension ← flag
  access ← cell_access_related_info
  selection ← cell_selection_info
  p_max ← if_present has_p_max p_max
  freq_band_indicator ← from_to 6 0 63
  scheduling ← scheduling_info_list
  tdd ← if_present has_tdd_config tdd_config
  window ← si_window_length
  value_tag ← from_to 5 0 31
  done
      (sib1_of access selection p_max (freq_band_indicator + 1) scheduling tdd window value_tag has_extension)
