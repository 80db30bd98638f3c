-- The MIBs that frames carry, and the entries made from them. `Decodes` says which MIB frames carry, and `IsSystem`
-- which system information a cell has. (own)
use Rattle.std.specs.Prelude.{◌≡◌, ℕ, ◌+◌, ◌<◌, ◌≤◌, List, [], ◌∷◌, Option, None, Some, MatchOption, IfSome, Result}
use Rattle.finite.specs.Lists.{joined_below}
use Rattle.cs_num.specs.declared.Sample.{Sample}
use Rattle.lte_types.specs.declared.entry.Entry.{Entry}
use Rattle.lte_types.specs.CellPlace.{Place}
use Rattle.lte_types.specs.Frames.{Frames, frames_from, first_number}
use Rattle.lte_types.specs.declared.sib1.Sib1.{Sib1}
use Rattle.lte_types.specs.declared.sib1_reason.Sib1Reason.{Sib1Reason}
use Rattle.pbch.specs.declared.master.Master.{Master}
use Rattle.pbch.specs.Master.{master_at}
use Rattle.explain.specs.Decoded.{Decoding, Informing}
use Rattle.explain.specs.Window.{AreFirstFrames}
use Rattle.explain.specs.Entries.{Adds}

-- the option `o` is the MIB that `frames` carry, or none if they carry none
abbrev pub IsDecodedAt : Decoding → Place → Frames → Option Master → Type 0
IsDecodedAt Decodes place frames o =
    MatchOption o ((master : Master) → Decodes place frames master → ⊥) (Decodes place frames)

-- `masters` gives, for each phase of the first frame, the MIB that `count` frames from frame j carry, or none
abbrev pub AreDecoded : Decoding → Place → ℕ → ℕ → List (Option Master) → Type 0
AreDecoded Decodes place count j masters =
    (phase : ℕ) → phase + count ≤ 4 → IsDecodedAt Decodes place (frames_from count j phase) (master_at masters phase)

-- `masters` has a MIB at some phase at which `count` frames fit in one period of four
pub record HasMaster (count : ℕ) (masters : List (Option Master)) : Type 0 where
  pub phase : ℕ
  pub known : phase + count ≤ 4
  pub master : Master
  pub is : master_at masters phase ≡ Some master

-- `count` frames from frame j carry a MIB, and `masters` gives their MIBs by phase
pub record HaveMasters (Decodes : Decoding) (place : Place) (count j : ℕ) (masters : List (Option Master)) :
    Type 0 where
  pub are : AreDecoded Decodes place count j masters
  pub some : HasMaster count masters

-- `count` frames from frame j are the first that carry a MIB, and `masters` gives their MIBs by phase
pub record AreFirstWith (Decodes : Decoding) (recording : List Sample) (place : Place) (count j : ℕ)
    (masters : List (Option Master)) : Type 0 where
  pub frames : AreFirstFrames Decodes recording place count j
  pub have : HaveMasters Decodes place count j masters

-- ---- entries

-- the entry for the MIB `master`, with the system information `sib1`
abbrev pub entry_of : Place → Frames → Master → Result Sib1 Sib1Reason → Entry
entry_of place frames master sib1 = record {
  id = place.id;
  start = place.start;
  sfn = first_number master.mib.upper frames;
  ports = master.ports;
  mib = master.mib;
  frames = frames.count;
  frame = frames.first;
  phase = frames.phase;
  cost = master.cost;
  sib1 = sib1;
}

-- the entry for the MIB at a phase, as a list; empty if there is no MIB at the phase
abbrev pub entry_at : Place → Frames → Option Master → Result Sib1 Sib1Reason → List Entry
entry_at place frames None sib1 = []
entry_at place frames (Some master) sib1 = entry_of place frames master sib1 ∷ []

-- the entries for the MIBs at the first `phases` phases, where `systems` gives the system information by phase
abbrev pub entries_of : Place → ℕ → ℕ → List (Option Master) → (ℕ → Result Sib1 Sib1Reason) → ℕ → List Entry
entries_of place count j masters systems phases =
    joined_below phases (λ phase. entry_at place (frames_from count j phase) (master_at masters phase) (systems phase))

-- ---- system information

-- if there is a MIB at a phase, `sib1` is its cell's system information
abbrev pub IsSystemAt : Informing → Place → Frames → Option Master → Result Sib1 Sib1Reason → Type 0
IsSystemAt IsSystem place frames o sib1 =
    IfSome o (λ master. IsSystem place (first_number master.mib.upper frames) master.ports master.mib sib1)

-- the list `new` is `old` extended by the entry for the MIB `o` at a phase, if there is one
pub record AddsPhase (IsSystem : Informing) (place : Place) (frames : Frames) (o : Option Master)
    (old new : List Entry) : Type 0 where
  pub sib1 : Result Sib1 Sib1Reason
  pub is_system : IsSystemAt IsSystem place frames o sib1
  pub adds : Adds (entry_at place frames o sib1) old new

-- the list `new` is `old` extended by the entries for the MIBs at the first `phases` phases
pub record AddsPhases (IsSystem : Informing) (place : Place) (count j : ℕ) (masters : List (Option Master)) (phases : ℕ)
    (old new : List Entry) : Type 0 where
  pub systems : ℕ → Result Sib1 Sib1Reason
  pub are_systems : (phase : ℕ) → phase < phases →
      IsSystemAt IsSystem place (frames_from count j phase) (master_at masters phase) (systems phase)
  pub adds : Adds (entries_of place count j masters systems phases) old new
