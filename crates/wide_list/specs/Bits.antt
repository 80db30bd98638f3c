-- The bits of the transport block that carried a cell's SIB1 in a wide recording, without the CRC. (own)
use Rattle.std.specs.Prelude.{◌≡◌, ◌⊎◌, ℕ, Bool, true, false, List, [], Result, Ok, Err}
use Rattle.lte_types.specs.declared.carrier.Carrier.{Carrier}
use Rattle.lte_types.specs.declared.entry.Entry.{Entry}
use Rattle.lte_types.specs.declared.sib1.Sib1.{Sib1}
use Rattle.lte_types.specs.declared.sib1_reason.Sib1Reason.{Sib1Reason}
use Rattle.sib1.specs.Message.{Says}
use Rattle.halving.specs.Wide.{Wide}
use Rattle.wide_cell.specs.Cell.{Cell}
use Rattle.wide_list.specs.First.{HaveNone, IsFirstOf}
use Rattle.wide_list.specs.Frames.{Frame, HasBitsAlone}
use Rattle.wide_list.specs.Together.{HasBitsTogether}
use Rattle.wide_list.specs.System.{AreTried}
use Rattle.wide_list.specs.List.{cell_of, is_read_wide}

-- ---- a cell

-- no frame has fields alone, and `bits` are the transport block of the first frame that has fields together with others
pub record AreReadTogether (frames : List Frame) (bits : List Bool) : Type 0 where
  pub alone : HaveNone HasBitsAlone frames
  pub first : IsFirstOf (HasBitsTogether frames) frames bits

-- no frame has fields, neither alone nor together with others, and there are no bits
pub record AreNotRead (frames : List Frame) (bits : List Bool) : Type 0 where
  pub alone : HaveNone HasBitsAlone frames
  pub together : HaveNone (HasBitsTogether frames) frames
  pub empty : bits ≡ []

-- `bits` are the transport block of the first frame that has fields alone; if none has, that of the first frame that
-- has fields together with others; if none has, there are no bits
abbrev pub AreBitsOf : List Frame → List Bool → Type 0
AreBitsOf frames bits = IsFirstOf HasBitsAlone frames bits ⊎ (AreReadTogether frames bits ⊎ AreNotRead frames bits)

-- `bits` are the transport block that carried a cell's SIB1 in the tried frames; there are no bits if there are no
-- fields
pub record AreSystemBits (wide : Wide) (cell : Cell) (start sfn : ℕ) (bits : List Bool) : Type 0 where
  pub frames : List Frame
  pub tried : AreTried wide cell start sfn frames
  pub are : AreBitsOf frames bits

-- an answer is read from `bits`: its fields are encoded in them, and there are no bits if there are no fields
abbrev pub IsReadIn : List Bool → Result Sib1 Sib1Reason → Type 0
IsReadIn bits (Ok fields) = Says bits (Ok fields)
IsReadIn bits (Err reason) = bits ≡ []

-- ---- an entry

-- `bits` are the transport block that carried the SIB1 of the entry `before` in wide samples; there are no bits if SIB1
-- is not read there
pub record AreWideBits (carrier : Carrier) (wide : Wide) (before : Entry) (bits : List Bool) : Type 0 where
  pub read : is_read_wide carrier wide.rate before ≡ true →
      AreSystemBits wide (cell_of before) before.start before.sfn bits
  pub empty : is_read_wide carrier wide.rate before ≡ false → bits ≡ []
