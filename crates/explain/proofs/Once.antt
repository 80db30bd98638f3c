-- Uniqueness: frames carry at most one MIB at a phase, and a cell has at most one answer on system information. (own)
use Rattle.std.specs.Prelude.{◌≡◌, ℕ, Result}
use Rattle.lte_types.specs.CellPlace.{Place}
use Rattle.lte_types.specs.Frames.{Frames}
use Rattle.lte_types.specs.declared.mib.Mib.{Mib}
use Rattle.lte_types.specs.declared.sib1.Sib1.{Sib1}
use Rattle.lte_types.specs.declared.sib1_reason.Sib1Reason.{Sib1Reason}
use Rattle.pbch.specs.declared.master.Master.{Master}
use Rattle.explain.specs.Decoded.{Decoding, Informing, Answering}

-- frames carry at most one MIB at a phase
abbrev pub DecodesOne : Decoding → Type 0
DecodesOne Decodes = (place : Place) (frames : Frames) (a b : Master) → Decodes place frames a → Decodes place frames b → a ≡ b

-- a cell has at most one answer on its system information
abbrev pub HasOneSystem : Informing → Type 0
HasOneSystem IsSystem = (place : Place) (sfn ports : ℕ) (mib : Mib) (a b : Result Sib1 Sib1Reason) →
    IsSystem place sfn ports mib a → IsSystem place sfn ports mib b → a ≡ b

-- each frame has at most one answer
abbrev pub AnswersOnce : Answering → Type 0
AnswersOnce Answers = (j : ℕ) (a b : Result Sib1 Sib1Reason) → Answers j a → Answers j b → a ≡ b
