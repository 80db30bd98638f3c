-- Each entry's measurements are unique.
use Rattle.std.proofs.Common.{◌≡◌, ◌%◌, Bool, ℤ, List, length, arith, rules, ap, sym, subst, ◌∙◌}
use Rattle.std.specs.List.{AllZip}
use Rattle.cs_num.specs.declared.Sample.{Sample}
use Rattle.lte_types.specs.declared.entry.Entry.{Entry}
use Rattle.explain.specs.Receiver.{Receiver, sums_by}
use Rattle.explain.proofs.Listed.{each_once}
use Rattle.explain.proofs.Blocks.{one_block_for}
use Rattle.explain.specs.Entries.{place_of, frames_of}
use Rattle.lte_types.specs.declared.evidence.Evidence.{Evidence}
use Rattle.lte_types.specs.CellPlace.{Place}
use Rattle.lte_types.specs.Frames.{Frames}
use Rattle.conv_code.proofs.Sums.{length-summed_by}
use Rattle.pbch.specs.Values.{summed_values}
use Rattle.tailbite.proofs.Only.{one_word}
use Rattle.code_distance.specs.Room.{IsRoom}
use Rattle.code_distance.proofs.Rooms.{is_one_room}
use Rattle.evidence.specs.declared.measured.Measured.{Measured}
use Rattle.evidence.specs.Evidence.{IsEvidenceFor, IsMeasuredFor, HasRoom, thousandths}
use Rattle.evidence.specs.Shown.{Shown, IsShownFor}

-- measurements with equal numbers are equal
same_evidence : (a b : Evidence) → a.id ≡ b.id → a.start ≡ b.start → a.sfn ≡ b.sfn → a.t ≡ b.t → a.peak ≡ b.peak → a.cost ≡ b.cost → a.total ≡ b.total →
    a.frames ≡ b.frames → a.frame ≡ b.frame → a.phase ≡ b.phase → a.power ≡ b.power → a.noise ≡ b.noise → a ≡ b
same_evidence a b id start sfn t peak cost total frames frame phase power noise = search rules

-- an entry's measurements are unique
one_evidence : (receiver : Receiver) (recording : List Sample) (entry : Entry) (a b : Evidence) → IsEvidenceFor receiver recording entry a → IsEvidenceFor receiver recording entry b → a ≡ b
one_evidence receiver recording entry a b p q =
    let t : a.t ≡ b.t = omega (arith, p.t.least b.t q.t.detected, q.t.least a.t p.t.detected) in
    same_evidence a b (p.id ∙ sym q.id) (p.start ∙ sym q.start) (p.sfn ∙ sym q.sfn) t
    (p.peak ∙ ap (thousandths recording (entry.id % 3)) t ∙ sym q.peak) (p.cost ∙ sym q.cost) (p.total ∙ sym q.total) (p.frames ∙ sym q.frames)
    (p.frame ∙ sym q.frame) (p.phase ∙ sym q.phase) (p.power ∙ sym q.power) (p.noise ∙ sym q.noise)

-- the sums for a 40-bit word have 40 rows
rows_of : (receiver : Receiver) (recording : List Sample) (place : Place) (frames : Frames) → length (sums_by receiver recording place frames) ≡ 40
unfolding summed_values
rows_of receiver recording place frames = length-summed_by _ 40 _

-- the room of the word decoded from soft values is unique
one_room : (values : List (List ℤ)) (a b : ℤ) → length values ≡ 40 → HasRoom values a → HasRoom values b → a ≡ b
one_room values a b size p q =
    is_one_room values q.word a b (omega (arith, size)) (subst (λ (word : List Bool). IsRoom values word a) (one_word values p.word q.word p.least q.least) p.room_is) q.room_is

same_measured : (a b : Measured) → a.numbers ≡ b.numbers → a.room ≡ b.room → a ≡ b
same_measured a b numbers room = search rules

-- an entry's measurements and room are unique
one_measured : (receiver : Receiver) (recording : List Sample) (entry : Entry) (a b : Measured) → IsMeasuredFor receiver recording entry a → IsMeasuredFor receiver recording entry b → a ≡ b
one_measured receiver recording entry a b p q =
    same_measured a b (one_evidence receiver recording entry a.numbers b.numbers p.numbers q.numbers)
    (one_room (sums_by receiver recording (place_of entry) (frames_of entry)) a.room b.room (rows_of receiver recording (place_of entry) (frames_of entry)) p.room q.room)

-- an entry's slot measurements and blocks are unique
one_shown : (receiver : Receiver) (recording : List Sample) (entry : Entry) (a b : Shown) → IsShownFor receiver recording entry a → IsShownFor receiver recording entry b → a ≡ b
one_shown receiver recording entry a b p q i = record {
  measured = one_measured receiver recording entry a.measured b.measured p.measured q.measured i;
  slot = (p.slot ∙ sym q.slot) i;
  master = (p.master ∙ sym q.master) i;
  block = one_block_for receiver recording (place_of entry) entry.sfn entry.mib entry.sib1 a.block b.block p.block q.block i;
}

-- the measurements of a list's entries are unique
pub one_for_each : (receiver : Receiver) (recording : List Sample) (entries : List Entry) (first second : List Measured) → AllZip (IsMeasuredFor receiver recording) entries first →
    AllZip (IsMeasuredFor receiver recording) entries second → first ≡ second
one_for_each receiver recording = each_once (IsMeasuredFor receiver recording) (one_measured receiver recording)

pub one_shown_for_each : (receiver : Receiver) (recording : List Sample) (entries : List Entry) (first second : List Shown) → AllZip (IsShownFor receiver recording) entries first →
    AllZip (IsShownFor receiver recording) entries second → first ≡ second
one_shown_for_each receiver recording = each_once (IsShownFor receiver recording) (one_shown receiver recording)
