-- What subframe 5 of a frame offers, and the SIB1 fields in a frame alone. SIB1 is sent in subframe 5 of even-numbered
-- frames, and does not change within 80 ms (TS 36.331 section 5.2.1.2). The order of trial is own.
use Rattle.std.specs.Prelude.{◌≡◌, ℕ, ◌+◌, ◌/◌, ◌%◌, nat_lt, if◌then◌else◌, Bool, List, [], ◌∷◌, map, Result, Ok, Err}
use Rattle.lte_types.specs.declared.sib1.Sib1.{Sib1}
use Rattle.lte_types.specs.declared.sib1_reason.Sib1Reason.{Sib1Reason}
use Rattle.lte_types.specs.declared.sib1_reason.Sib1Reason.TheVariants.{NoSearchSpace, NoControl}
use Rattle.halving.specs.Wide.{Wide}
use Rattle.wide_cell.specs.Cell.{Cell}
use Rattle.wide_slot.specs.Lines.{smoothing}
use Rattle.wide_slot.specs.Slot.{WideSeen, seen_slot}
use Rattle.wide_control.specs.Control.{SeenControl, IsControl}
use Rattle.wide_block.specs.Sums.{Offer, offer_of}
use Rattle.wide_block.specs.Block.{OfferSays, CarriesFields, offer_block}
use Rattle.explain.specs.Frame.{frame_at}
use Rattle.wide_list.specs.First.{HaveNone, IsFirstOf}

-- ---- what a frame offers

-- what a frame offers: its period of 80 ms, the number of control channel elements, and the grants in the order of
-- search, with their sums
pub record Frame : Type 0 where
  pub period : ℕ
  pub elements : ℕ
  pub offers : List Offer

-- what a frame offers, from its slots 10 and 11, its number and the content of its control channels
abbrev pub frame_of : WideSeen → WideSeen → ℕ → SeenControl → Frame
frame_of first second number control = record {
  period = number / 8;
  elements = control.elements;
  offers = map (offer_of first second control.cfi) control.grants;
}

-- `frame` is what a frame with slots 10 and 11, `first` and `second`, offers; its system frame number is `number` modulo
-- 1,024
pub record IsOffered (first second : WideSeen) (number : ℕ) (frame : Frame) : Type 0 where
  pub control : SeenControl
  pub decoded : IsControl first (number % 1024) control
  pub is : frame ≡ frame_of first second number control

-- slot `number` of a cell's frame j; the cell's first frame begins at sample `start` at 1.92 million samples per second
abbrev pub slot_at : Wide → Cell → ℕ → ℕ → ℕ → WideSeen
slot_at wide cell start j number = record {
  cell = cell;
  weights = smoothing;
  slot = seen_slot wide cell (frame_at start j) number;
}

-- `frame` is what a cell's frame j offers; the cell's first frame has the system frame number sfn
abbrev pub IsFrame : Wide → Cell → ℕ → ℕ → ℕ → Frame → Type 0
IsFrame wide cell start sfn j frame =
    IsOffered (slot_at wide cell start j 10) (slot_at wide cell start j 11) (sfn + j) frame

-- ---- the fields in a frame alone

-- `fields` are the SIB1 fields in an offer's transport block
abbrev pub HasFields : Offer → Sib1 → Type 0
HasFields offer fields = OfferSays offer (Ok fields)

-- the reason of a frame without offers, by the number of control channel elements; a candidate needs four
abbrev pub reason_without : ℕ → Sib1Reason
reason_without elements = if nat_lt elements 4 then NoSearchSpace elements else NoControl

-- the reason of a frame: that of its first offer, if it has offers
abbrev pub IsReason : ℕ → List Offer → Sib1Reason → Type 0
IsReason elements [] reason = reason ≡ reason_without elements
IsReason elements (offer ∷ rest) reason = OfferSays offer (Err reason)

-- no offer of a frame has fields, and `reason` is the frame's reason
pub record IsUnread (frame : Frame) (reason : Sib1Reason) : Type 0 where
  pub none : HaveNone HasFields frame.offers
  pub first : IsReason frame.elements frame.offers reason

-- a frame's answer alone: the fields of its first offer that has any, or else its reason
abbrev pub AnswersAlone : Frame → Result Sib1 Sib1Reason → Type 0
AnswersAlone frame (Ok fields) = IsFirstOf HasFields frame.offers fields
AnswersAlone frame (Err reason) = IsUnread frame reason

-- the answer of a cell's frame j alone
pub record IsAlone (wide : Wide) (cell : Cell) (start sfn j : ℕ) (answer : Result Sib1 Sib1Reason) : Type 0 where
  pub frame : Frame
  pub is : IsFrame wide cell start sfn j frame
  pub answers : AnswersAlone frame answer

-- ---- the transport block of a frame alone

-- `bits` are an offer's transport block, which carries SIB1 fields
abbrev pub HasBits : Offer → List Bool → Type 0
HasBits offer bits = CarriesFields (offer_block offer) bits

-- `bits` are the transport block of a frame's first offer that has fields
abbrev pub HasBitsAlone : Frame → List Bool → Type 0
HasBitsAlone frame bits = IsFirstOf HasBits frame.offers bits
