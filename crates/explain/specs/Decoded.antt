-- The content of a cell's frames, as relations that a receiver provides. (own)
use Rattle.std.specs.Prelude.{ℕ, Bool, List, Option, Result}
use Rattle.lte_types.specs.CellPlace.{Place}
use Rattle.lte_types.specs.Frames.{Frames}
use Rattle.lte_types.specs.declared.mib.Mib.{Mib}
use Rattle.lte_types.specs.declared.sib1.Sib1.{Sib1}
use Rattle.lte_types.specs.declared.sib1_reason.Sib1Reason.{Sib1Reason}
use Rattle.dci.specs.declared.grant.Grant.{Grant}
use Rattle.pbch.specs.declared.master.Master.{Master}
use Rattle.sib1_reader.specs.declared.reading.Attempt.{Attempt}

-- a relation between a cell's place, some of its frames, and a MIB that the frames carry
abbrev pub Decoding : Type 1
Decoding = Place → Frames → Master → Type 0

-- a relation between a cell's place, its first system frame number, its antenna port count, its MIB, and its system
-- information or the reason for its absence
abbrev pub Informing : Type 1
Informing = Place → ℕ → ℕ → Mib → Result Sib1 Sib1Reason → Type 0

-- a relation between a frame, by its index from the cell's first frame, and the system information that the frame
-- carries, or the reason for its absence
abbrev pub Answering : Type 1
Answering = ℕ → Result Sib1 Sib1Reason → Type 0

-- a relation between a frame, by its index from the cell's first frame, and the attempt to read system information in
-- the frame
abbrev pub Attempting : Type 1
Attempting = ℕ → Attempt → Type 0

-- a relation between a cell's place, its first system frame number, its MIB, its system information, and the control
-- format indicator and grant with which the system information was read, or none
abbrev pub Granting : Type 1
Granting = Place → ℕ → Mib → Result Sib1 Sib1Reason → Option (ℕ × Grant) → Type 0

-- a relation between a cell's place, its first system frame number, its MIB, its system information, and the bits of
-- the transport block that carried the system information, or no bits
abbrev pub Carrying : Type 1
Carrying = Place → ℕ → Mib → Result Sib1 Sib1Reason → List Bool → Type 0
