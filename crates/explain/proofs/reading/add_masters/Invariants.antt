use Rattle.std.proofs.Common.{◌≡◌, ◌+◌, ◌≤◌, List, length}
use Rattle.lte_types.specs.declared.hit.Hit.{Hit}
use Rattle.explain.specs.Masters.{AddsPhases}
use Rattle.explain.specs.Readings.{IsFirstAt, IsReadingOf, KeepsReadings}
use Rattle.explain.specs.Receiver.{place_by}
use Rattle.explain.specs.System.{IsSystemFor}
use Rattle.explain.proofs.reading.add_masters.Given as goal

abbrev pub invariant-loop-phase : goal.invariant-loop-phase
invariant-loop-phase g l = record {
  adds : AddsPhases (IsSystemFor g.F.FrameReader.receiver l.recording) l.found.place l.found.masters.frames l.found.masters.frame l.found.masters.at l.phase l.fn.list l.list;
  few : length l.list ≤ length l.fn.list + l.phase;
  beside : length l.notes.readings ≡ length l.list;
  readings : (hits : List Hit) → IsFirstAt (place_by g.F.FrameReader.receiver.carrier l.recording) hits l.found.place l.found.hit →
      KeepsReadings (IsReadingOf g.F.FrameReader.receiver l.recording hits) l.fn.list l.list l.fn.notes.readings l.notes.readings;
  places : l.notes.places ≡ l.fn.notes.places;
}
