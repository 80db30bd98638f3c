use Rattle.std.proofs.Common.{◌≡◌, ◌*◌, ◌≤◌, length, take}
use Rattle.std.specs.List.{AllZip}
use Rattle.explain.specs.Receiver.{place_by}
use Rattle.explain.specs.Entries.{AreEntriesFor, IsListOfHits}
use Rattle.explain.specs.Readings.{IsReadingOf}
use Rattle.explain.proofs.Again.{AreMet}
use Rattle.explain.proofs.Beside.{AllMet}
use Rattle.explain.proofs.reading.add_hits.Given as goal

abbrev pub invariant-loop-hit : goal.invariant-loop-hit
invariant-loop-hit g l = record {
  listed : IsListOfHits (AreEntriesFor g.F.FrameReader.receiver l.recording) (take l.hit-index l.hits) l.list;
  few : length l.list ≤ 4 * l.hit-index;
  met : AreMet (place_by g.F.FrameReader.receiver.carrier l.recording) (take l.hit-index l.hits) l.notes.places;
  few_met : length l.notes.places ≤ l.hit-index;
  all_met : AllMet (place_by g.F.FrameReader.receiver.carrier l.recording) l.hits l.hit-index l.notes.places;
  beside : length l.notes.readings ≡ length l.list;
  readings : AllZip (IsReadingOf g.F.FrameReader.receiver l.recording l.hits) l.list l.notes.readings;
}
