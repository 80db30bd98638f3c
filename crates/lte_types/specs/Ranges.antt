-- The ranges of the fields in SIB1 (TS 36.331 section 6.2.2).
use Rattle.std.specs.Prelude.{ℕ, ℤ, ◌^◌, ◌<◌, ◌≤◌, List, [], ◌∷◌, All, length, negsuc, pos, ◌≤ℤ◌, IsSome, IfSome}
use Rattle.lte_types.specs.declared.cell_access_related_info.CellAccessRelatedInfo.{CellAccessRelatedInfo}
use Rattle.lte_types.specs.declared.cell_selection_info.CellSelectionInfo.{CellSelectionInfo}
use Rattle.lte_types.specs.declared.mnc.Mnc.{Mnc}
use Rattle.lte_types.specs.declared.mnc.Mnc.TheVariants.{Two, Three}
use Rattle.lte_types.specs.declared.plmn.Plmn.{Plmn}
use Rattle.lte_types.specs.declared.si_message.SiMessage.{SiMessage}
use Rattle.lte_types.specs.declared.sib1.Sib1.{Sib1}
use Rattle.lte_types.specs.Parts.{access_of, selection_of}

-- each number in `digits` is a decimal digit
abbrev pub AreDigits : List ℕ → Type 0
AreDigits digits = All (λ digit. digit ≤ 9) digits

-- a network code consists of decimal digits
abbrev pub HasDigits : Mnc → Type 0
HasDigits (Two digits) = AreDigits digits
HasDigits (Three digits) = AreDigits digits

-- a PLMN identity whose network code and, if present, country code consist of decimal digits
pub record IsValidPlmn (plmn : Plmn) : Type 0 where
  pub mcc : IfSome plmn.mcc AreDigits
  pub mnc : HasDigits plmn.mnc

-- a nonempty list of PLMN identities, the first with a country code
abbrev pub FirstHasMcc : List Plmn → Type 0
FirstHasMcc [] = ⊥
FirstHasMcc (plmn ∷ rest) = IsSome plmn.mcc

-- 1 to 6 valid PLMN identities, the first with a country code
pub record ArePlmns (plmns : List Plmn) : Type 0 where
  pub count : (1 ≤ length plmns) × (length plmns ≤ 6)
  pub valid : All IsValidPlmn plmns
  pub first_mcc : FirstHasMcc plmns

-- a valid si-Periodicity code, 0 to 6
abbrev pub IsPeriod : ℕ → Type 0
IsPeriod code = code ≤ 6

-- a schedule entry with a valid period and SIB codes of at most 79
pub record IsValidMessage (message : SiMessage) : Type 0 where
  pub period : IsPeriod message.period
  pub sibs : All (λ code. code ≤ 79) message.sibs

-- a schedule of 1 to 32 valid entries
pub record AreMessages (messages : List SiMessage) : Type 0 where
  pub count : (1 ≤ length messages) × (length messages ≤ 32)
  pub valid : All IsValidMessage messages

-- a valid csg-Identity, 27 bits
abbrev pub IsGroup : ℕ → Type 0
IsGroup identity = identity < 2 ^ 27

-- a valid q-RxLevMin, -70 to -22, in units of 2 dBm
abbrev pub IsLevel : ℤ → Type 0
IsLevel level = (negsuc 69 ≤ℤ level) × (level ≤ℤ negsuc 21)

-- a valid q-RxLevMinOffset, 1 to 8, in units of 2 dB
abbrev pub IsLevelOffset : ℕ → Type 0
IsLevelOffset offset = (1 ≤ offset) × (offset ≤ 8)

-- a valid p-Max, -30 to 33 dBm
abbrev pub IsPower : ℤ → Type 0
IsPower power = (negsuc 29 ≤ℤ power) × (power ≤ℤ pos 33)

-- a valid freqBandIndicator, 1 to 64
abbrev pub IsBand : ℕ → Type 0
IsBand band = (1 ≤ band) × (band ≤ 64)

-- a valid subframeAssignment, 0 to 6, and valid specialSubframePatterns, 0 to 8
abbrev pub IsTddConfig : ℕ × ℕ → Type 0
IsTddConfig config = (config.0 ≤ 6) × (config.1 ≤ 8)

-- a valid si-WindowLength code, 0 to 6
abbrev pub IsWindow : ℕ → Type 0
IsWindow code = code ≤ 6

-- the fields of cellAccessRelatedInfo are in their ranges
pub record IsAccess (access : CellAccessRelatedInfo) : Type 0 where
  pub plmns : ArePlmns access.plmns
  pub cell : access.cell < 2 ^ 28
  pub csg_identity : IfSome access.csg_identity IsGroup

-- the fields of cellSelectionInfo are in their ranges
pub record IsSelection (selection : CellSelectionInfo) : Type 0 where
  pub q_rx : IsLevel selection.q_rx
  pub q_offset : IfSome selection.q_offset IsLevelOffset

-- every field of `sib1` is in its range
pub record IsValid (sib1 : Sib1) : Type 0 where
  pub access : IsAccess (access_of sib1)
  pub selection : IsSelection (selection_of sib1)
  pub p_max : IfSome sib1.p_max IsPower
  pub band : IsBand sib1.band
  pub messages : AreMessages sib1.scheduling
  pub tdd : IfSome sib1.tdd IsTddConfig
  pub window : IsWindow sib1.window
  pub tag : sib1.tag ≤ 31
