-- Cells that one PSS detection is enough to find, and the criterion by which the receiver reads them: at each detection
-- that gives the cell, near one of them, the sent word is the one that the receiver decodes. (own)
use Rattle.std.specs.Prelude.{◌≡◌, ℕ, ◌+◌, ◌-◌, ◌*◌, ◌/◌, ◌%◌, ◌≤◌, List, ℤ, Result, Ok, Err}
use Rattle.std.specs.List.{Contains}
use Rattle.cs_num.specs.declared.Sample.{Sample}
use Rattle.lte_types.specs.declared.entry.Entry.{Entry}
use Rattle.lte_types.specs.declared.frame.Half.{Half}
use Rattle.lte_types.specs.declared.sib1_reason.Sib1Reason.{Sib1Reason}
use Rattle.lte_types.specs.Block.{HasFields}
use Rattle.lte_types.specs.Carrier.{prefix_of}
use Rattle.lte_types.specs.CellPlace.{Place}
use Rattle.lte_types.specs.Frames.{frames_from}
use Rattle.lte_types.specs.Numerology.{symbol_step, cycle_length, frame_length}
use Rattle.pss_search.specs.Hits.{IsHit, found}
use Rattle.sss_detect.specs.Identity.{IsBest, prefix_scores}
use Rattle.sss_detect.specs.Place.{start_by_hit}
use Rattle.pbch.specs.Master.{Decodes}
use Rattle.sib1_reader.specs.Attempt.{Reads}
use Rattle.explain.specs.Receiver.{Receiver, Subframes, sums_by}
use Rattle.explain.specs.System.{even_frame}
use Rattle.explain.specs.Entries.{distance, epoch}
use Rattle.cell_plan.specs.declared.cell.CellPlan.{CellPlan}
use Rattle.clean_air.specs.Heard.{SentMaster, word_of_master, master_of_plan}

-- ---- the detections

-- A primary signal of the cell, at sample t, is a PSS detection. The secondary signal in front of it gives the cell's
-- identity group and the half-frame `half`.
pub record IsFoundAt (receiver : Receiver) (recording : List Sample) (id t : ℕ) (half : Half) : Type 0 where
  pub known : id ≤ 503
  pub hit : IsHit recording t (id % 3)
  pub room : symbol_step (prefix_of receiver.carrier) ≤ t
  pub best : IsBest (prefix_scores (prefix_of receiver.carrier) recording (found recording t (id % 3))) (id / 3) half

-- the identity, and the sample at which the first whole frame begins according to the detection at sample t
abbrev pub place_found : ℕ → ℕ → Half → Place
place_found id t half = record { id = id; start = start_by_hit t half }

-- the epoch of a cell whose frame numbered `number` begins at sample `first`
abbrev pub epoch_at : ℕ → ℕ → ℕ
epoch_at first number = (first + (cycle_length - frame_length * number)) % cycle_length

-- The detection at sample u gives the cell. If the first whole frame according to this detection has number m, the
-- cell's epoch is at most 9 samples from that of a frame numbered `number` that begins at sample `first`.
pub record IsFoundNear (receiver : Receiver) (recording : List Sample) (id first number u : ℕ) (half : Half) (m : ℕ)
    : Type 0 where
  pub fits : m ≤ 1023
  pub found : IsFoundAt receiver recording id u half
  pub near : distance (epoch_at (start_by_hit u half) m) (epoch_at first number) ≤ 9

-- ---- the criterion

-- the PBCH soft values in the first whole frame, which has number `number`, added by coded bit
abbrev pub first_sums : Receiver → List Sample → Place → ℕ → List (List ℤ)
first_sums receiver recording place number = sums_by receiver recording place (frames_from 1 0 (number % 4))

-- The receiver decodes the cell's MIB in the first whole frame: the detection at sample t gives the cell, whose first
-- whole frame has number `number`, and at each detection that gives the cell near this one, the receiver's rule for
-- MIBs accepts the sent word.
pub record IsMasterDecoded (receiver : Receiver) (recording : List Sample) (id : ℕ) (master : SentMaster)
    (number t : ℕ) (half : Half) : Type 0 where
  pub fits : number ≤ 1023
  pub found : IsFoundAt receiver recording id t half
  pub each :
      (u : ℕ) (other : Half) (m : ℕ) → IsFoundNear receiver recording id (start_by_hit t half) number u other m →
      Decodes (first_sums receiver recording (place_found id u other) m) (word_of_master master m) master.ports

-- A receiver that reads subframe 5 reads the plan's SIB1 in the first even-numbered whole frame. Nothing is required for
-- a receiver that does not read subframe 5.
abbrev pub IsSystemRead : Result Subframes Sib1Reason → List Sample → CellPlan → Place → ℕ → Type 0
IsSystemRead (Ok values) recording plan place number =
    Reads (values recording place (even_frame number 0) plan.duration plan.resource) (Ok plan.sib1)
IsSystemRead (Err reason) recording plan place number = Unit {0}

-- The receiver reads the cell: it decodes the cell's MIB and, if it reads subframe 5, the plan's SIB1, at each detection
-- that gives the cell near the one at sample t.
pub record IsCellRead (receiver : Receiver) (recording : List Sample) (plan : CellPlan) (number t : ℕ) (half : Half)
    : Type 0 where
  pub master :
      IsMasterDecoded receiver recording plan.identity (master_of_plan receiver.carrier plan) number t half
  pub system :
      (u : ℕ) (other : Half) (m : ℕ) →
      IsFoundNear receiver recording plan.identity (start_by_hit t half) number u other m →
      IsSystemRead receiver.subframe recording plan (place_found plan.identity u other) m

-- ---- the list's entry

-- The list has an entry with the cell's identity, the antenna port count and the fields of the MIB, for which `Is`
-- holds. Its epoch is at most 9 samples from that of the frame numbered `number` at sample `first`.
pub record HoldsCell (list : List Entry) (identity first number : ℕ) (master : SentMaster) (Is : Entry → Type 0)
    : Type 0 where
  pub entry : Entry
  pub inside : Contains list entry
  pub id : entry.id ≡ identity
  pub near : distance (epoch entry) (epoch_at first number) ≤ 9
  pub ports : entry.ports ≡ master.ports
  pub block : HasFields entry.mib master.width master.duration master.resource (entry.sfn / 4) master.spare
  pub is : Is entry
