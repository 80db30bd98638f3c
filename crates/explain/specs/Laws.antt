-- Laws of the list of a recording, and of the list of any hits, where `IsOf` says which entries a hit has. (own)
use Rattle.std.specs.Prelude.{◌≡◌, ◌≢◌, ◌⊎◌, ℕ, ◌<◌, ◌≤◌, true, List, Ok, Err}
use Rattle.std.specs.List.{AllPairs, Contains}
use Rattle.cs_num.specs.declared.Sample.{Sample}
use Rattle.lte_types.specs.declared.hit.Hit.{Hit}
use Rattle.lte_types.specs.declared.entry.Entry.{Entry}
use Rattle.lte_types.specs.Frames.{frames_from, first_number}
use Rattle.lte_types.specs.declared.sib1_reason.Sib1Reason.TheVariants.{LongPrefix}
use Rattle.pbch.specs.declared.master.Master.{Master}
use Rattle.explain.specs.Frame.{IsWhole}
use Rattle.explain.specs.Receiver.{Receiver, Subframes, hits_by, place_by}
use Rattle.explain.specs.System.{IsSystemFor}
use Rattle.explain.specs.Entries.{master_of, place_of, frames_of, IsMasterFor, IsEntryFor, AreEntries, IsListOfHits}
use Rattle.explain.specs.Entries.{IsListFor, is_same_cell}

-- for given hits there is at most one list
abbrev pub HaveOneList : (Hit → Entry → Type 0) → List Hit → Type 0
HaveOneList IsOf hits =
    (first second : List Entry) → IsListOfHits (λ hit. AreEntries (IsOf hit)) hits first →
    IsListOfHits (λ hit. AreEntries (IsOf hit)) hits second → first ≡ second

-- a recording has at most one list for a receiver
abbrev pub IsOneList : Type 0
IsOneList = (receiver : Receiver) (recording : List Sample) →
    HaveOneList (IsEntryFor receiver recording) (hits_by receiver.carrier recording)

-- `entry` is an entry of some hit in `hits`
pub record IsEntryOfSome (IsOf : Hit → Entry → Type 0) (hits : List Hit) (entry : Entry) : Type 0 where
  pub hit : Hit
  pub listed : Contains hits hit
  pub is_of : IsOf hit entry

-- each listed entry is an entry of some hit in `hits`
abbrev pub IsSoundOf : (Hit → Entry → Type 0) → List Hit → Type 0
IsSoundOf IsOf hits =
    (list : List Entry) (entry : Entry) → IsListOfHits (λ hit. AreEntries (IsOf hit)) hits list → Contains list entry →
    IsEntryOfSome IsOf hits entry

-- each entry in a receiver's list is an entry of some hit that the receiver uses
abbrev pub IsSound : Type 0
IsSound = (receiver : Receiver) (recording : List Sample) →
    IsSoundOf (IsEntryFor receiver recording) (hits_by receiver.carrier recording)

-- `other`, an entry in `list`, represents `entry`: it equals `entry` or belongs to the same cell
pub record StandsFor (list : List Entry) (entry other : Entry) : Type 0 where
  pub inside : Contains list other
  pub same : (other ≡ entry) ⊎ (is_same_cell other entry ≡ true)

-- each entry of each hit in `hits` is represented in the list, by itself or by an entry of its cell
abbrev pub IsCompleteOf : (Hit → Entry → Type 0) → List Hit → Type 0
IsCompleteOf IsOf hits =
    (list : List Entry) (entry : Entry) → IsListOfHits (λ hit. AreEntries (IsOf hit)) hits list →
    IsEntryOfSome IsOf hits entry →
    (other : Entry) × StandsFor list entry other

-- each entry of each hit that a receiver uses is represented in the receiver's list
abbrev pub IsComplete : Type 0
IsComplete = (receiver : Receiver) (recording : List Sample) →
    IsCompleteOf (IsEntryFor receiver recording) (hits_by receiver.carrier recording)

-- two entries belong to different cells; they differ in identity, start or frame number
pub record AreApart (first second : Entry) : Type 0 where
  pub other_cell : is_same_cell first second ≢ true
  pub differ : first.id ≡ second.id → first.start ≡ second.start → first.sfn ≢ second.sfn

-- no two listed entries of `hits` belong to one cell
abbrev pub IsApartOf : (Hit → Entry → Type 0) → List Hit → Type 0
IsApartOf IsOf hits =
    (list : List Entry) → IsListOfHits (λ hit. AreEntries (IsOf hit)) hits list → AllPairs AreApart list

-- no two entries in a receiver's list belong to one cell
abbrev pub IsApart : Type 0
IsApart = (receiver : Receiver) (recording : List Sample) →
    IsApartOf (IsEntryFor receiver recording) (hits_by receiver.carrier recording)

-- if the receiver has soft values for subframe 5, no listed entry gives the extended cyclic prefix as the reason for
-- missing system information
abbrev pub IsNeverLong : Type 0
IsNeverLong = (receiver : Receiver) (values : Subframes) (recording : List Sample)
    (list : List Entry) (entry : Entry) → receiver.subframe ≡ Ok values → IsListFor receiver recording list →
    Contains list entry → entry.sib1 ≢ Err LongPrefix

-- ---- single frames

-- `entry` reports a MIB from a single frame of the hit's cell: the first of frames 0 to 7 whose soft values, not
-- combined with others, decode to a MIB
pub record IsEntryOfOneFrame (receiver : Receiver) (recording : List Sample) (hit : Hit) (entry : Entry) : Type 0 where
  pub id : entry.id ≡ (place_by receiver.carrier recording hit).id
  pub start : entry.start ≡ (place_by receiver.carrier recording hit).start
  pub one : entry.frames ≡ 1
  pub phase : entry.phase < 4
  pub known : entry.frame ≤ 7
  pub whole : IsWhole recording entry.start entry.frame
  pub first : (j phase : ℕ) (master : Master) → j < entry.frame → phase < 4 →
      IsMasterFor receiver recording (place_of entry) (frames_from 1 j phase) master → ⊥
  pub master : IsMasterFor receiver recording (place_of entry) (frames_from 1 entry.frame entry.phase) (master_of entry)
  pub sfn : entry.sfn ≡ first_number entry.mib.upper (frames_of entry)
  pub sib1 : IsSystemFor receiver recording (place_of entry) entry.sfn entry.ports entry.mib entry.sib1

-- an entry from a single frame of a hit is an entry of the hit
abbrev pub OneFrameDecodes : Type 0
OneFrameDecodes = (receiver : Receiver) (recording : List Sample) (hit : Hit) (entry : Entry) →
    IsEntryOfOneFrame receiver recording hit entry → IsEntryFor receiver recording hit entry

-- if the receiver does not combine frames, each entry of a hit is from a single frame
abbrev pub OneFrameAlone : Type 0
OneFrameAlone = (receiver : Receiver) (recording : List Sample) (hit : Hit) (entry : Entry) →
    receiver.most_frames ≡ 1 → IsEntryFor receiver recording hit entry →
    IsEntryOfOneFrame receiver recording hit entry

-- an entry from a single frame of a hit is represented in the list, by itself or by an entry of its cell
abbrev pub OneFrameIsListed : Type 0
OneFrameIsListed =
    (receiver : Receiver) (recording : List Sample) (list : List Entry) (hit : Hit) (entry : Entry) →
    IsListFor receiver recording list → Contains (hits_by receiver.carrier recording) hit →
    IsEntryOfOneFrame receiver recording hit entry → (other : Entry) × StandsFor list entry other
