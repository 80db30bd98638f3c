-- The system information of a cell of any bandwidth, from the frames that are tried: each alone, then together. These
-- are the first eight even-numbered frames that lie within the recording. (own)
use Rattle.std.specs.Prelude.{◌⊎◌, ◌↔◌, ℕ, ◌<◌, List, length, Result, Ok, Err}
use Rattle.std.specs.List.{HoldsAt}
use Rattle.lte_types.specs.declared.sib1.Sib1.{Sib1}
use Rattle.lte_types.specs.declared.sib1_reason.Sib1Reason.{Sib1Reason}
use Rattle.halving.specs.Wide.{Wide, narrowed}
use Rattle.wide_cell.specs.Cell.{Cell}
use Rattle.explain.specs.System.{even_frame, IsTried, IsFirstRead, IsNoneRead}
use Rattle.wide_list.specs.First.{HaveNone, IsFirstOf}
use Rattle.wide_list.specs.Frames.{Frame, IsFrame, IsAlone}
use Rattle.wide_list.specs.Together.{HasFieldsTogether}

-- `frames` are what the tried frames offer, in order
pub record AreTried (wide : Wide) (cell : Cell) (start sfn : ℕ) (frames : List Frame) : Type 0 where
  pub tried : (i : ℕ) → (i < length frames) ↔ IsTried (narrowed wide) start sfn i
  pub each : (i : ℕ) → i < length frames → HoldsAt (IsFrame wide cell start sfn (even_frame sfn i)) frames i

-- `frames` are tried, none has fields alone, and `reason` is that of the first
pub record AreUnread (wide : Wide) (cell : Cell) (start sfn : ℕ) (reason : Sib1Reason) (frames : List Frame) :
    Type 0 where
  pub tried : AreTried wide cell start sfn frames
  pub alone : IsNoneRead (IsAlone wide cell start sfn) (narrowed wide) start sfn reason

-- `fields` are read from frames together, and no frame has fields alone
pub record IsReadTogether (wide : Wide) (cell : Cell) (start sfn : ℕ) (fields : Sib1) : Type 0 where
  pub reason : Sib1Reason
  pub frames : List Frame
  pub unread : AreUnread wide cell start sfn reason frames
  pub first : IsFirstOf (HasFieldsTogether frames) frames fields

-- no frame has fields alone, the frames have none together, and `reason` is that of the first frame
pub record IsNotRead (wide : Wide) (cell : Cell) (start sfn : ℕ) (reason : Sib1Reason) : Type 0 where
  pub frames : List Frame
  pub unread : AreUnread wide cell start sfn reason frames
  pub none : HaveNone (HasFieldsTogether frames) frames

-- the system information of a cell in a wide recording, or the reason for its absence: the fields of the first tried
-- frame that has any alone; if none has, the first fields that frames have together
abbrev pub IsWideSystem : Wide → Cell → ℕ → ℕ → Result Sib1 Sib1Reason → Type 0
IsWideSystem wide cell start sfn (Ok fields) =
    IsFirstRead (IsAlone wide cell start sfn) (narrowed wide) start sfn fields
    ⊎ IsReadTogether wide cell start sfn fields
IsWideSystem wide cell start sfn (Err reason) = IsNotRead wide cell start sfn reason
