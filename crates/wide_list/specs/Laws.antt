-- Laws of wide lists. (own)
use Rattle.std.specs.Prelude.{◌≡◌, ℕ, ◌<◌, Bool, List, Result}
use Rattle.lte_types.specs.declared.entry.Entry.{Entry}
use Rattle.lte_types.specs.declared.sib1.Sib1.{Sib1}
use Rattle.lte_types.specs.declared.sib1_reason.Sib1Reason.{Sib1Reason}
use Rattle.lte_types.specs.Numerology.{frame_length}
use Rattle.halving.specs.Wide.{Wide, IsWide}
use Rattle.wide_cell.specs.Cell.{Cell}
use Rattle.explain.specs.Receiver.{Receiver}
use Rattle.wide_list.specs.System.{IsWideSystem}
use Rattle.wide_list.specs.List.{IsWideListFor}
use Rattle.wide_list.specs.Bits.{AreSystemBits, IsReadIn}

-- a cell in a wide recording has at most one answer on its system information
abbrev pub IsOneWideSystem : Type 0
IsOneWideSystem = (wide : Wide) (cell : Cell) (start sfn : ℕ) (a b : Result Sib1 Sib1Reason) →
    IsWideSystem wide cell start sfn a → IsWideSystem wide cell start sfn b → a ≡ b

-- a cell in a wide recording has an answer on its system information, if its first frame begins before sample 19,200 at
-- 1.92 million samples per second
abbrev pub IsSomeWideSystem : Type 0
IsSomeWideSystem = (wide : Wide) (cell : Cell) (start sfn : ℕ) → IsWide wide → start < frame_length →
    (answer : Result Sib1 Sib1Reason) × IsWideSystem wide cell start sfn answer

-- a wide recording has at most one list for a receiver
abbrev pub IsOneWideList : Type 0
IsOneWideList = (receiver : Receiver) (wide : Wide) (a b : List Entry) →
    IsWideListFor receiver wide a → IsWideListFor receiver wide b → a ≡ b

-- a cell in a wide recording has at most one transport block that carried its SIB1
abbrev pub IsOneSystemBlock : Type 0
IsOneSystemBlock = (wide : Wide) (cell : Cell) (start sfn : ℕ) (a b : List Bool) →
    AreSystemBits wide cell start sfn a → AreSystemBits wide cell start sfn b → a ≡ b

-- the tried frames of a cell in a wide recording have such a transport block, or no bits
abbrev pub IsSomeSystemBlock : Type 0
IsSomeSystemBlock = (wide : Wide) (cell : Cell) (start sfn : ℕ) →
    (bits : List Bool) × AreSystemBits wide cell start sfn bits

-- a cell's system information is read from the bits of its transport block
abbrev pub SystemIsInBits : Type 0
SystemIsInBits =
    (wide : Wide) (cell : Cell) (start sfn : ℕ) (answer : Result Sib1 Sib1Reason) (bits : List Bool) →
    IsWideSystem wide cell start sfn answer → AreSystemBits wide cell start sfn bits → IsReadIn bits answer
