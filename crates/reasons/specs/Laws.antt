-- Laws of the reasons why an identity is in a recording's list or not. (own)
use Rattle.std.specs.Prelude.{◌≡◌, ◌↔◌, ℕ, ◌≤◌, List, length}
use Rattle.std.specs.List.{Contains}
use Rattle.cs_num.specs.declared.Sample.{Sample}
use Rattle.lte_types.specs.declared.entry.Entry.{Entry}
use Rattle.lte_types.specs.declared.hit.Hit.{Hit}
use Rattle.sample_file.specs.Recording.{AgreeBefore}
use Rattle.explain.specs.Deciding.{deciding_length, LooksAtFirstFrames}
use Rattle.explain.specs.Receiver.{Receiver, hits_by, place_by}
use Rattle.explain.specs.Entries.{IsEntryFor, IsListFor}
use Rattle.reasons.specs.declared.reason.Reason.{Reason}
use Rattle.reasons.specs.declared.reason.Reason.TheVariants.{Listed}
use Rattle.reasons.specs.declared.reason.ListedCell.{ListedCell}
use Rattle.reasons.specs.Reason.{IsReasonFor}

-- `list` has an entry with the cell identity `identity`
pub record HasEntry (list : List Entry) (identity : ℕ) : Type 0 where
  pub entry : Entry
  pub inside : Contains list entry
  pub same : entry.id ≡ identity

-- one of `reasons` is that a cell is listed
pub record SaysListed (reasons : List Reason) : Type 0 where
  pub cell : ListedCell
  pub inside : Contains reasons (Listed cell)

-- an identity is in a recording's list if and only if one of its reasons is that a cell is listed
abbrev pub ListedIsInList : Type 0
ListedIsInList = (receiver : Receiver) (recording : List Sample) (identity : ℕ) (reasons : List Reason)
    (list : List Entry) → IsReasonFor receiver recording identity reasons → IsListFor receiver recording list →
    HasEntry list identity ↔ SaysListed reasons

-- for an identity, there is at most one list of reasons
abbrev pub HasOneReason : Type 0
HasOneReason = (receiver : Receiver) (recording : List Sample) (identity : ℕ) (first second : List Reason) →
    IsReasonFor receiver recording identity first → IsReasonFor receiver recording identity second → first ≡ second

-- If the list of a receiver has no entry with `identity`, no frames of a cell with this identity give an entry, at any
-- hit that the receiver uses. So a reason `NoMib`, which has the numbers of the first frame, is true of all frames.
abbrev pub UnlistedHasNoMib : Type 0
UnlistedHasNoMib = (receiver : Receiver) (recording : List Sample) (identity : ℕ) (list : List Entry) (hit : Hit)
    (entry : Entry) → IsListFor receiver recording list → (HasEntry list identity → ⊥) →
    Contains (hits_by receiver.carrier recording) hit → (place_by receiver.carrier recording hit).id ≡ identity →
    IsEntryFor receiver recording hit entry → ⊥

-- the first frames decide the reasons: for each receiver that reads only these frames, two recordings of at least
-- 326,400 samples that agree in the first 326,400 have equal reasons for an identity
abbrev pub FirstFramesDecideReasons : Type 0
FirstFramesDecideReasons = (receiver : Receiver) → LooksAtFirstFrames receiver → (first second : List Sample)
    (identity : ℕ) (reasons : List Reason) → deciding_length ≤ length first → deciding_length ≤ length second →
    AgreeBefore deciding_length first second → IsReasonFor receiver first identity reasons →
    IsReasonFor receiver second identity reasons
