-- How the entries of a list were read. (own)
use Rattle.std.specs.Prelude.{◌≡◌, ◌≢◌, ◌⊎◌, ℕ, ◌+◌, ◌<◌, ◌≤◌, List, ℤ, Some, length, slice_get}
use Rattle.std.specs.List.{AllZip, insert}
use Rattle.cs_num.specs.declared.Sample.{Sample}
use Rattle.lte_types.specs.declared.hit.Hit.{Hit}
use Rattle.lte_types.specs.declared.entry.Entry.{Entry}
use Rattle.lte_types.specs.CellPlace.{Place}
use Rattle.lte_types.specs.Frames.{Frames, frames_from}
use Rattle.pbch.specs.Master.{sums_at}
use Rattle.explain.specs.declared.readings.Reading.{Reading}
use Rattle.explain.specs.Decoded.{Granting, Carrying}
use Rattle.explain.specs.Receiver.{Receiver, one_port_receiver, hits_by, place_by, sums_by}
use Rattle.explain.specs.Entries.{place_of, frames_of}
use Rattle.explain.specs.Grant.{IsGrantFor}
use Rattle.explain.specs.Blocks.{IsBlockFor}

-- `hit` is the first in `hits` whose place is `wanted`, where `place` gives a hit's place
pub record IsFirstAt (place : Hit → Place) (hits : List Hit) (wanted : Place) (hit : Hit) : Type 0 where
  pub at : ℕ
  pub is : slice_get hits at ≡ Some hit
  pub decodes : place hit ≡ wanted
  pub first : (h : ℕ) (other : Hit) → h < at → slice_get hits h ≡ Some other → place other ≢ wanted

-- `reading` is how `entry` was read from `hits`. `summed` gives the combined soft values for frames, `IsGrant` the
-- control format indicator and the grant for system information, and `IsBlock` the transport block that carried it.
pub record IsReadingBy (summed : Place → Frames → List (List ℤ)) (IsGrant : Granting) (IsBlock : Carrying)
    (place : Hit → Place) (hits : List Hit) (entry : Entry) (reading : Reading) : Type 0 where
  pub hit : IsFirstAt place hits (place_of entry) reading.hit
  pub sums : reading.sums ≡ summed (place_of entry) (frames_of entry)
  pub granted : IsGrant (place_of entry) entry.sfn entry.mib entry.sib1 reading.granted
  pub block : IsBlock (place_of entry) entry.sfn entry.mib entry.sib1 reading.block.items

-- `all` gives the combined soft values of `count` frames from frame j, for each phase of the first frame
abbrev pub AreSums : (Frames → List (List ℤ)) → ℕ → ℕ → List (List (List ℤ)) → Type 0
AreSums sums count j all = (phase : ℕ) → phase + count ≤ 4 → sums_at all phase ≡ sums (frames_from count j phase)

-- ---- how a receiver reads

-- how a receiver read an entry from a list of hits
abbrev pub IsReadingOf : Receiver → List Sample → List Hit → Entry → Reading → Type 0
IsReadingOf receiver recording =
    IsReadingBy (sums_by receiver recording) (IsGrantFor receiver recording) (IsBlockFor receiver recording)
    (place_by receiver.carrier recording)

-- how a receiver read an entry from the recording's hits
abbrev pub IsReadingFor : Receiver → List Sample → Entry → Reading → Type 0
IsReadingFor receiver recording = IsReadingOf receiver recording (hits_by receiver.carrier recording)

-- a law: the reading of an entry is unique
abbrev pub IsOneReading : Type 0
IsOneReading = (receiver : Receiver) (recording : List Sample) (entry : Entry) (a b : Reading) →
    IsReadingFor receiver recording entry a → IsReadingFor receiver recording entry b → a ≡ b

-- how an entry was read from the recording's hits, with one antenna port
abbrev pub IsReading : List Sample → Entry → Reading → Type 0
IsReading = IsReadingFor one_port_receiver

-- ---- as in the code

-- `entry` is inserted into the list `old`, and `reading` at the same index into the parallel list `before`
pub record AreInserted (entry : Entry) (reading : Reading) (old new : List Entry) (before after : List Reading) :
    Type 0 where
  pub at : ℕ
  pub within : at ≤ length old
  pub entries : new ≡ insert old at entry
  pub readings : after ≡ insert before at reading

-- the list and the parallel list of readings do not change
pub record AreKept (old new : List Entry) (before after : List Reading) : Type 0 where
  pub entries : new ≡ old
  pub readings : after ≡ before

-- the list and the parallel list of readings do not change, or each gains one item at the same index
abbrev pub AddsBeside : Entry → Reading → List Entry → List Entry → List Reading → List Reading → Type 0
AddsBeside entry reading old new before after =
    AreKept old new before after ⊎ AreInserted entry reading old new before after

-- the parallel list still has the reading of each entry at the entry's index, where `Is` says which reading an entry
-- has
abbrev pub KeepsReadings : (Entry → Reading → Type 0) → List Entry → List Entry → List Reading → List Reading → Type 0
KeepsReadings Is old new before after = AllZip Is old before → AllZip Is new after
