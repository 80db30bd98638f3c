-- The parts of SIB1 (TS 36.331 section 6.2.2).
use Rattle.std.specs.Prelude.{ℕ, ℤ, Bool, List, Option}
use Rattle.lte_types.specs.declared.cell_access_related_info.CellAccessRelatedInfo.{CellAccessRelatedInfo}
use Rattle.lte_types.specs.declared.cell_selection_info.CellSelectionInfo.{CellSelectionInfo}
use Rattle.lte_types.specs.declared.si_message.SiMessage.{SiMessage}
use Rattle.lte_types.specs.declared.sib1.Sib1.{Sib1}

-- the fields of SIB1 in cellAccessRelatedInfo
abbrev pub access_of : Sib1 → CellAccessRelatedInfo
access_of sib1 = record {
  plmns = sib1.plmns;
  tac = sib1.tac;
  cell = sib1.cell;
  barred = sib1.barred;
  intra = sib1.intra;
  csg = sib1.csg;
  csg_identity = sib1.csg_identity;
}

-- the fields of SIB1 in cellSelectionInfo
abbrev pub selection_of : Sib1 → CellSelectionInfo
selection_of sib1 = record { q_rx = sib1.q_rx; q_offset = sib1.q_offset }

-- SIB1 from its parts in order: cellAccessRelatedInfo, cellSelectionInfo, p-Max, freqBandIndicator, schedulingInfoList,
-- TDD-Config, the si-WindowLength code, systemInfoValueTag, and whether an extension is present
abbrev pub sib1_of :
    CellAccessRelatedInfo → CellSelectionInfo → Option ℤ → ℕ → List SiMessage → Option (ℕ × ℕ) → ℕ → ℕ → Bool →
    Sib1
sib1_of access selection p_max band scheduling tdd window tag extended = record {
  plmns = access.plmns;
  tac = access.tac;
  cell = access.cell;
  barred = access.barred;
  intra = access.intra;
  csg = access.csg;
  csg_identity = access.csg_identity;
  q_rx = selection.q_rx;
  q_offset = selection.q_offset;
  p_max = p_max;
  band = band;
  scheduling = scheduling;
  tdd = tdd;
  window = window;
  tag = tag;
  extended = extended;
}
