-- The frames that are searched for a cell's MIB: its frames 0 to 7 within the recording, first single frames, then two
-- to four consecutive ones in one period of four. `Decodes` states which MIB these frames carry; for a receiver that
-- combines fewer frames, larger groups carry none. (own)
use Rattle.std.specs.Prelude.{◌≡◌, ◌⊎◌, ℕ, ◌+◌, ◌<◌, ◌≤◌, List}
use Rattle.cs_num.specs.declared.Sample.{Sample}
use Rattle.lte_types.specs.CellPlace.{Place}
use Rattle.lte_types.specs.Frames.{frames_from}
use Rattle.pbch.specs.declared.master.Master.{Master}
use Rattle.explain.specs.Frame.{IsWhole}
use Rattle.explain.specs.Decoded.{Decoding}

-- `count` consecutive frames from frame j, 1 to 4 of frames 0 to 7, are tried together; they lie within the recording
pub record IsInWindow (recording : List Sample) (start count j : ℕ) : Type 0 where
  pub some : 1 ≤ count
  pub few : count ≤ 4
  pub known : j + count ≤ 8
  pub whole : (m : ℕ) → m < count → IsWhole recording start (j + m)

-- `few` frames from frame i are tried before `count` frames from frame j: they are fewer, or equally many and begin
-- earlier
abbrev pub ComeBefore : ℕ × ℕ → ℕ × ℕ → Type 0
ComeBefore (few, i) (count, j) = (few < count) ⊎ ((few ≡ count) × (i < j))

-- `count` frames from frame j carry no MIB, at any phase
abbrev pub NoneIsDecoded : Decoding → Place → ℕ → ℕ → Type 0
NoneIsDecoded Decodes place count j =
    (phase : ℕ) (master : Master) → phase + count ≤ 4 → Decodes place (frames_from count j phase) master → ⊥

-- no frames that are tried before the `count` frames from frame j carry a MIB
abbrev pub HasNoMasterBefore : Decoding → List Sample → Place → ℕ → ℕ → Type 0
HasNoMasterBefore Decodes recording place count j =
    (few i : ℕ) → IsInWindow recording place.start few i → ComeBefore (few, i) (count, j) →
    NoneIsDecoded Decodes place few i

-- no frames that are tried carry a MIB
abbrev pub HasNoMasters : Decoding → List Sample → Place → Type 0
HasNoMasters Decodes recording place =
    (count j : ℕ) → IsInWindow recording place.start count j → NoneIsDecoded Decodes place count j

-- `count` frames from frame j are tried, and no frames tried earlier carry a MIB
pub record AreFirstFrames (Decodes : Decoding) (recording : List Sample) (place : Place) (count j : ℕ) : Type 0 where
  pub inside : IsInWindow recording place.start count j
  pub first : HasNoMasterBefore Decodes recording place count j
