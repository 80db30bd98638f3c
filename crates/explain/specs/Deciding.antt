-- How much of a recording decides its list. (own)
use Rattle.std.specs.Prelude.{◌≡◌, ℕ, ◌*◌, ◌<◌, ◌≤◌, List, length, Result, Ok, Err}
use Rattle.cs_num.specs.declared.Sample.{Sample}
use Rattle.lte_types.specs.CellPlace.{Place}
use Rattle.lte_types.specs.declared.duration.Duration.{Duration}
use Rattle.lte_types.specs.declared.entry.Entry.{Entry}
use Rattle.lte_types.specs.declared.resource.Resource.{Resource}
use Rattle.lte_types.specs.declared.sib1_reason.Sib1Reason.{Sib1Reason}
use Rattle.lte_types.specs.Numerology.{frame_length}
use Rattle.sample_file.specs.Recording.{AgreeBefore}
use Rattle.explain.specs.Receiver.{Receiver, Subframes, one_port_receiver}
use Rattle.explain.specs.Entries.{IsListFor}

-- the number of samples in 17 frames, 326,400. A receiver reads at most frames 0 to 15 of a cell, and frame 0 starts
-- within the first 19,200 samples.
abbrev pub deciding_length : ℕ
deciding_length = 17 * frame_length

-- the soft values of subframe 5 of frame j, if a receiver reads any, are equal in two recordings
abbrev pub AreSameSubframes : Result Subframes Sib1Reason → List Sample → List Sample → Place → ℕ → Type 0
AreSameSubframes (Ok values) first second place j =
    (duration : Duration) (resource : Resource) →
    values first place j duration resource ≡ values second place j duration resource
AreSameSubframes (Err reason) first second place j = Unit {0}

-- the receiver reads only the first frames: if two recordings agree in their first 326,400 samples, frames 0 to 15 of a
-- cell that starts within the first frame have equal soft values
pub record LooksAtFirstFrames (receiver : Receiver) : Type 0 where
  pub broadcast : (first second : List Sample) (place : Place) (j : ℕ) →
      AgreeBefore deciding_length first second → place.start < frame_length → j ≤ 15 →
      receiver.broadcast first place j ≡ receiver.broadcast second place j
  pub subframes : (first second : List Sample) (place : Place) (j : ℕ) →
      AgreeBefore deciding_length first second → place.start < frame_length → j ≤ 15 →
      AreSameSubframes receiver.subframe first second place j

-- if two recordings have at least 326,400 samples and agree in the first 326,400, the receiver's list for one is also
-- its list for the other
abbrev pub AreDecidedFor : Receiver → Type 0
AreDecidedFor receiver =
    (first second : List Sample) (list : List Entry) → deciding_length ≤ length first →
    deciding_length ≤ length second →
    AgreeBefore deciding_length first second → IsListFor receiver first list → IsListFor receiver second list

-- a law: the first 326,400 samples decide the list, for each receiver that reads only the first frames
abbrev pub FirstFramesDecideAll : Type 0
FirstFramesDecideAll = (receiver : Receiver) → LooksAtFirstFrames receiver → AreDecidedFor receiver

-- a law: the first 326,400 samples decide the list for one antenna port, so a longer recording may be cut there
abbrev pub FirstFramesDecide : Type 0
FirstFramesDecide = AreDecidedFor one_port_receiver
