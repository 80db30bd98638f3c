use Rattle.std.proofs.Common.{◌≡◌, List, ap, drop, subst, sym}
use Rattle.std.specs.Prelude.{All}
use Rattle.std.specs.List.{AllZip, filter}
use Rattle.lte_types.specs.declared.carrier.Carrier.{Carrier}
use Rattle.lte_types.specs.declared.hit.Hit.{Hit}
use Rattle.pss_search.specs.Hits.{IsInSpan}
use Rattle.pss_search.proofs.Listed.{listed_in_span}
use Rattle.explain.specs.declared.scheme.Scheme.{Scheme}
use Rattle.explain.specs.Receiver.{HasRoom, has_step_before}
use Rattle.explain.specs.Entries.{AreEntriesFor, IsListOfHits}
use Rattle.explain.specs.Readings.{IsReadingOf}
use Rattle.explain.proofs.Late.{all_have_room, late_slice}
use Rattle.explain.proofs.Valid.{all_valid}
use Rattle.explain.proofs.reading.read_hits.Goals as goal

pub early_hits-first-requires-clause-span : goal.early_hits-first-requires-clause-span
early_hits-first-requires-clause-span g c = subst (All IsInSpan) (sym c.requires) (listed_in_span c.args.recording.now)

pub add_hits-requires-clause-placed : goal.add_hits-requires-clause-placed
add_hits-requires-clause-placed g c =
    let carrier = g.F.FrameReader.receiver.carrier in
    let r = c.args.recording.now in
    let hits = c.args.hits.now in
    let first = c.early_hits-first.result in
    let late = late_slice carrier r hits first c.requires c.early_hits-first.ensures.within
    (subst (λ (k : Carrier). filter (has_step_before k) hits ≡ drop first hits) (ap (λ (s : Scheme). s.carrier) c.scheme.ensures.value) c.early_hits-first.ensures.later) in
    subst (All (HasRoom carrier)) (sym late) (all_have_room carrier r)

pub returns-clause-list : goal.returns-clause-list
returns-clause-list g c =
    let receiver = g.F.FrameReader.receiver in
    let r = c.args.recording.now in
    let hits = c.args.hits.now in
    let first = c.early_hits-first.result in
    let late = late_slice receiver.carrier r hits first c.requires c.early_hits-first.ensures.within
    (subst (λ (k : Carrier). filter (has_step_before k) hits ≡ drop first hits) (ap (λ (s : Scheme). s.carrier) c.scheme.ensures.value) c.early_hits-first.ensures.later) in
    subst (λ (hs : List Hit). IsListOfHits (AreEntriesFor receiver r) hs c.add_hits.new.list) late c.add_hits.ensures.list

pub returns-clause-readings : goal.returns-clause-readings
returns-clause-readings g c =
    let receiver = g.F.FrameReader.receiver in
    let r = c.args.recording.now in
    let hits = c.args.hits.now in
    let first = c.early_hits-first.result in
    let late = late_slice receiver.carrier r hits first c.requires c.early_hits-first.ensures.within
    (subst (λ (k : Carrier). filter (has_step_before k) hits ≡ drop first hits) (ap (λ (s : Scheme). s.carrier) c.scheme.ensures.value) c.early_hits-first.ensures.later) in
    subst (λ (hs : List Hit). AllZip (IsReadingOf receiver r hs) c.add_hits.new.list c.add_hits.new.notes.readings) late c.add_hits.ensures.readings

pub returns-clause-valid : goal.returns-clause-valid
returns-clause-valid g c = all_valid g.F.FrameReader.receiver c.args.recording.now c.add_hits.new.list (returns-clause-list g c)
