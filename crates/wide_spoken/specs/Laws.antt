-- Laws: what is spoken is decoded. (own)
use Rattle.std.specs.Prelude.{◌≡◌, ℕ, ◌%◌, true, List, Result, Ok}
use Rattle.std.specs.List.{Contains}
use Rattle.lte_types.specs.declared.entry.Entry.{Entry}
use Rattle.lte_types.specs.declared.sib1.Sib1.{Sib1}
use Rattle.lte_types.specs.declared.sib1_reason.Sib1Reason.{Sib1Reason}
use Rattle.halving.specs.Wide.{Wide, narrowed}
use Rattle.explain.specs.Receiver.{Receiver}
use Rattle.explain.specs.Entries.{IsListFor}
use Rattle.wide_cell.specs.Cell.{Cell}
use Rattle.wide_slot.specs.Slot.{WideSeen}
use Rattle.wide_control.specs.Control.{SeenControl, IsControl}
use Rattle.wide_block.specs.Sums.{offer_of}
use Rattle.wide_block.specs.Block.{OfferSays}
use Rattle.wide_list.specs.Frames.{Frame, IsOffered, AnswersAlone}
use Rattle.wide_list.specs.System.{IsWideSystem}
use Rattle.wide_list.specs.List.{cell_of, is_read_wide, IsWideListFor}
use Rattle.wide_spoken.specs.Sent.{Sent, IsControlSent, IsBlockSent}
use Rattle.wide_spoken.specs.Spoken.{IsControlSpoken, IsBlockSpoken, IsSpoken}
use Rattle.wide_spoken.specs.Listed.{IsSystemSpoken, HoldsWithFields}

-- ---- a subframe

-- the content of the control channels has the sent indicator and the sent grant
pub record HasGrant (sent : Sent) (control : SeenControl) : Type 0 where
  pub indicator : control.cfi ≡ sent.cfi
  pub grant : Contains control.grants sent.grant

-- a law: if the soft values of the control channels have the signs of the sent bits, the sent indicator is decoded, and
-- the sent grant is found
abbrev pub SpokenGrantIsFound : Type 0
SpokenGrantIsFound =
    (slot : WideSeen) (sfn : ℕ) (sent : Sent) (control : SeenControl) → IsControlSent slot.cell sfn sent →
    IsControlSpoken slot sent → IsControl slot sfn control → HasGrant sent control

-- a law: if the soft values of the sent grant have the signs of the sent bits, and are enough, the transport block is
-- decoded, and its fields are read
abbrev pub SpokenBlockIsRead : Type 0
SpokenBlockIsRead =
    (first second : WideSeen) (sfn : ℕ) (sent : Sent) → IsControlSent first.cell sfn sent → IsBlockSent sent →
    IsBlockSpoken first second sent → OfferSays (offer_of first second sent.cfi sent.grant) (Ok sent.fields)

-- a law: a frame whose subframe 5 is spoken has the sent fields alone
abbrev pub SpokenFrameIsRead : Type 0
SpokenFrameIsRead =
    (first second : WideSeen) (number : ℕ) (sent : Sent) (frame : Frame) →
    IsSpoken first second (number % 1024) sent → IsOffered first second number frame →
    AnswersAlone frame (Ok sent.fields)

-- ---- a cell and a list

-- a law: a cell's system information is the sent fields if a tried frame is spoken, and no earlier frame has other
-- fields
abbrev pub SpokenSystemIsRead : Type 0
SpokenSystemIsRead =
    (wide : Wide) (cell : Cell) (start sfn : ℕ) (sent : Sent) (answer : Result Sib1 Sib1Reason) →
    IsSystemSpoken wide cell start sfn sent → IsWideSystem wide cell start sfn answer → answer ≡ Ok sent.fields

-- a law: if SIB1 of an entry in the list at 1.92 million samples per second is read from wide samples, and a tried
-- frame of its cell is spoken there, the wide list holds the entry with the sent fields
abbrev pub SpokenEntryIsInformed : Type 0
SpokenEntryIsInformed =
    (receiver : Receiver) (wide : Wide) (narrow list : List Entry) (entry : Entry) (sent : Sent) →
    IsListFor receiver (narrowed wide) narrow → Contains narrow entry →
    is_read_wide receiver.carrier wide.rate entry ≡ true →
    IsSystemSpoken wide (cell_of entry) entry.start entry.sfn sent → IsWideListFor receiver wide list →
    HoldsWithFields list entry sent.fields
