-- The soft values in a cell's first frames, as the code keeps them, and the MIBs decoded from them. (own)
use Rattle.std.specs.Prelude.{◌≡◌, ℕ, ◌+◌, ◌<◌, ◌≤◌, Bool, if◌then◌else◌, List, length, ℤ, Option, None, Some}
use Rattle.finite.specs.Lists.{values_below}
use Rattle.lte_types.specs.CellPlace.{Place}
use Rattle.pbch.specs.declared.master.Master.{Master}
use Rattle.explain.specs.Decoded.{Decoding}
use Rattle.explain.specs.Window.{NoneIsDecoded}
use Rattle.explain.specs.Masters.{HaveMasters}

-- the decoded MIB, if there is one and its antenna port count is accepted, where `takes` says which counts are
abbrev pub taken_of : (ℕ → Bool) → Option Master → Option Master
taken_of takes None = None
taken_of takes (Some master) = if takes master.ports then Some master else None

-- `frames` holds the soft values received in consecutive frames, from frame j on
abbrev pub AreReceived : (ℕ → List ℤ) → ℕ → List (List ℤ) → Type 0
AreReceived values j frames = frames ≡ values_below (length frames) (λ m. values (j + m))

-- no `count` consecutive frames among the first `whole` frames carry a MIB
abbrev pub NoneDecodes : Decoding → Place → ℕ → ℕ → Type 0
NoneDecodes Decodes place whole count = (j : ℕ) → j + count ≤ whole → NoneIsDecoded Decodes place count j

-- the frames from frame j are the first `count` consecutive frames among the first `whole` that carry a MIB, and
-- `masters` gives their MIBs by phase
pub record AreFirstOf (Decodes : Decoding) (place : Place) (whole count j : ℕ)
    (masters : List (Option Master)) : Type 0 where
  pub within : j + count ≤ whole
  pub first : (i : ℕ) → i < j → NoneIsDecoded Decodes place count i
  pub have : HaveMasters Decodes place count j masters
