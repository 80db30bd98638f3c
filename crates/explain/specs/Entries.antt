-- The list of the cells in a recording. (own)
use Rattle.std.specs.Prelude.{◌≡◌, ◌⊎◌, ◌↔◌, ℕ, ◌+◌, ◌-◌, ◌*◌, ◌%◌, ◌<◌, ◌≤◌, min, Bool, ◌&&◌, nat_eq, nat_le}
use Rattle.std.specs.Prelude.{if◌then◌else◌, true, List, [], ◌∷◌, ◌++◌, length, ℤ, Result}
use Rattle.std.specs.List.{fold, list_any, flat_map, insert, AllWithin, HoldsAt, AllZip, AllPairs, Contains}
use Rattle.std.specs.List.Sorted.{IsPermutation}
use Rattle.cs_num.specs.declared.Sample.{Sample}
use Rattle.lte_types.specs.declared.hit.Hit.{Hit}
use Rattle.lte_types.specs.declared.entry.Entry.{Entry}
use Rattle.lte_types.specs.declared.sib1.Sib1.{Sib1}
use Rattle.lte_types.specs.declared.sib1_reason.Sib1Reason.{Sib1Reason}
use Rattle.lte_types.specs.declared.carrier.Carrier.TheVariants.{OnePort}
use Rattle.lte_types.specs.CellPlace.{Place}
use Rattle.lte_types.specs.Frames.{Frames, first_number}
use Rattle.lte_types.specs.Numerology.{cycle_length, frame_length}
use Rattle.pbch.specs.declared.master.Master.{Master}
use Rattle.pbch.specs.Master.{DecodesMaster}
use Rattle.explain.specs.Receiver.{Receiver, one_port_receiver, is_wanted, hits_by, place_by, sums_by}
use Rattle.explain.specs.System.{IsSystemFor}
use Rattle.explain.specs.Decoded.{Decoding, Informing}
use Rattle.explain.specs.Window.{AreFirstFrames}

-- ---- the entries of a hit

-- the place of a hit's cell, with the normal cyclic prefix: the cell identity, and the sample at which its first frame
-- starts
abbrev pub place_at : List Sample → Hit → Place
place_at = place_by OnePort

-- the place of an entry's cell: the cell identity, and the sample at which its first frame starts
abbrev pub place_of : Entry → Place
place_of entry = record { id = entry.id; start = entry.start }

-- the frames from which an entry's MIB was decoded
abbrev pub frames_of : Entry → Frames
frames_of entry = record { count = entry.frames; first = entry.frame; phase = entry.phase }

-- an entry's MIB, with its antenna port count and its cost
abbrev pub master_of : Entry → Master
master_of entry = record { ports = entry.ports; mib = entry.mib; cost = entry.cost }

-- `entry` with other system information, or another reason for its absence
abbrev pub with_system : Entry → Result Sib1 Sib1Reason → Entry
with_system entry sib1 = record entry { sib1 = sib1 }

-- the combined PBCH soft values of a cell's frames, with one antenna port
abbrev pub sums_of : List Sample → Place → Frames → List (List ℤ)
sums_of = sums_by one_port_receiver

-- the combined PBCH soft values from which an entry's MIB is decoded, with one antenna port
abbrev pub values_of_entry : List Sample → Entry → List (List ℤ)
values_of_entry recording entry = sums_of recording (place_of entry) (frames_of entry)

-- `entry` reports a MIB of the cell at `place`, from the first of its frames that carry a MIB. `Decodes` says which MIB
-- frames carry, and `IsSystem` which system information the cell has.
pub record IsEntryAt (Decodes : Decoding) (IsSystem : Informing) (recording : List Sample) (place : Place)
    (entry : Entry) : Type 0 where
  pub id : entry.id ≡ place.id
  pub start : entry.start ≡ place.start
  pub period : entry.phase + entry.frames ≤ 4
  pub frames : AreFirstFrames Decodes recording (place_of entry) entry.frames entry.frame
  pub master : Decodes (place_of entry) (frames_of entry) (master_of entry)
  pub sfn : entry.sfn ≡ first_number entry.mib.upper (frames_of entry)
  pub sib1 : IsSystem (place_of entry) entry.sfn entry.ports entry.mib entry.sib1

-- the combined soft values of `frames` decode to the MIB `master`. The frames are at most as many as `receiver`
-- combines, and it accepts the MIB's antenna port count.
pub record IsMasterFor (receiver : Receiver) (recording : List Sample) (place : Place) (frames : Frames)
    (master : Master) : Type 0 where
  pub few : frames.count ≤ receiver.most_frames
  pub taken : is_wanted receiver.ports master.ports ≡ true
  pub decoded : DecodesMaster (sums_by receiver recording place frames) master

-- the entry reports a MIB of the hit's cell, as a receiver reads it
abbrev pub IsEntryFor : Receiver → List Sample → Hit → Entry → Type 0
IsEntryFor receiver recording hit =
    IsEntryAt (IsMasterFor receiver recording) (IsSystemFor receiver recording) recording
    (place_by receiver.carrier recording hit)

-- the entry reports a MIB of the hit's cell, read with one antenna port
abbrev pub IsEntryOf : List Sample → Hit → Entry → Type 0
IsEntryOf = IsEntryFor one_port_receiver

-- `entries` has exactly the entries for which `Is` holds, in order of phase
pub record AreEntries (Is : Entry → Type 0) (entries : List Entry) : Type 0 where
  pub given : (entry : Entry) → Contains entries entry ↔ Is entry
  pub by_phase : AllPairs (λ first second. first.phase < second.phase) entries

-- a receiver's entries for a hit: one for each MIB of the hit's cell, in order of phase
abbrev pub AreEntriesFor : Receiver → List Sample → Hit → List Entry → Type 0
AreEntriesFor receiver recording hit = AreEntries (IsEntryFor receiver recording hit)

-- ---- the entries that are kept

-- an entry's epoch: the sample at which system frame 0 begins, modulo the samples of 1,024 frames
abbrev pub epoch : Entry → ℕ
epoch entry = (entry.start + (cycle_length - frame_length * entry.sfn)) % cycle_length

-- the distance in samples between two epochs, modulo the samples of 1,024 frames
abbrev pub distance : ℕ → ℕ → ℕ
distance a b = let gap = (a - b) + (b - a) in min gap (cycle_length - gap)

-- whether two entries belong to one cell: their identities are equal, and their epochs are at most 9 samples apart
abbrev pub is_same_cell : Entry → Entry → Bool
is_same_cell a b = nat_eq a.id b.id && nat_le (distance (epoch a) (epoch b)) 9

-- the kept entries followed by one more entry, unless a kept entry belongs to the same cell
abbrev pub with_entry : List Entry → Entry → List Entry
with_entry kept entry = if list_any (λ other. is_same_cell other entry) kept then kept else kept ++ entry ∷ []

-- the entries that are kept, in order: each entry whose cell has no earlier kept entry
abbrev pub kept : List Entry → List Entry
kept entries = fold with_entry [] entries

-- ---- the list

-- entry `a` is listed before entry `b`: by start, then by identity, then by frame number
abbrev pub IsBefore : Entry → Entry → Type 0
IsBefore a b =
    (a.start < b.start) ⊎ ((a.start ≡ b.start) × ((a.id < b.id) ⊎ ((a.id ≡ b.id) × (a.sfn < b.sfn))))

-- `new` is the list `old` with `entry` inserted at index `at`, immediately after the leading entries that come before
-- it
pub record IsPut (entry : Entry) (at : ℕ) (old new : List Entry) : Type 0 where
  pub within : at ≤ length old
  pub before : AllWithin (λ other. IsBefore other entry) old 0 at
  pub after : at < length old → HoldsAt (λ other. ¬ IsBefore other entry) old at
  pub new_is : new ≡ insert old at entry

-- `list` holds the kept entries among `entries`, in listing order
pub record IsListOf (entries list : List Entry) : Type 0 where
  pub same : IsPermutation (kept entries) list
  pub in_order : AllPairs IsBefore list

-- the list `new` is `old` extended by `entries`: if `old` lists some earlier entries, `new` lists these followed by
-- `entries`
abbrev pub Adds : List Entry → List Entry → List Entry → Type 0
Adds entries old new = (before : List Entry) → IsListOf before old → IsListOf (before ++ entries) new

-- `list` is the list of the entries of all `hits`, where `AreOf` says which entries a hit has
pub record IsListOfHits (AreOf : Hit → List Entry → Type 0) (hits : List Hit) (list : List Entry) : Type 0 where
  pub groups : List (List Entry)
  pub each : AllZip AreOf hits groups
  pub listed : IsListOf (flat_map (λ entries. entries) groups) list

-- the list `new` is `old` extended by the entries of `hit`, where `AreOf` says which entries a hit has
pub record AddsHit (AreOf : Hit → List Entry → Type 0) (hit : Hit) (old new : List Entry) : Type 0 where
  pub entries : List Entry
  pub are : AreOf hit entries
  pub adds : Adds entries old new

-- a recording's list for a receiver
abbrev pub IsListFor : Receiver → List Sample → List Entry → Type 0
IsListFor receiver recording list =
    IsListOfHits (AreEntriesFor receiver recording) (hits_by receiver.carrier recording) list

-- a recording's list for one antenna port
abbrev pub IsExplained : List Sample → List Entry → Type 0
IsExplained = IsListFor one_port_receiver

-- `entry` is in the recording's list for one antenna port
pub record IsInList (recording : List Sample) (entry : Entry) : Type 0 where
  pub list : List Entry
  pub explained : IsExplained recording list
  pub inside : Contains list entry
