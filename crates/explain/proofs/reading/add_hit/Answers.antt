use Rattle.std.proofs.Common.{◌∙◌, ap, sym, subst}
use Rattle.lte_types.specs.CellPlace.{Place}
use Rattle.explain.specs.declared.scheme.Scheme.{Scheme}
use Rattle.explain.specs.Receiver.{place_by}
use Rattle.explain.specs.Readings.{IsFirstAt}
use Rattle.explain.proofs.FirstEntries.{adds_entries, adds_nothing}
use Rattle.explain.proofs.Kept.{adds_none}
use Rattle.explain.proofs.reading.add_hit.Goals as goal

pub returns-in-Some-clause-adds : goal.returns-in-Some-clause-adds
returns-in-Some-clause-adds g c new =
    let r = c.args.recording.now in
    adds_entries g.F.FrameReader.receiver r c.args.hit.now c.detected_place-place.result (c.detected_place-place.ensures ∙ ap (λ carrier. place_by carrier r c.args.hit.now) (ap (λ (s : Scheme). s.carrier) c.scheme.ensures.value))
    c.in-Some.masters.frames c.in-Some.masters.frame c.in-Some.masters.at c.args.list.now c.add_masters.new.list c.in-Some.ensures.masters c.add_masters.ensures.adds

pub returns-in-Some-clause-readings : goal.returns-in-Some-clause-readings
returns-in-Some-clause-readings g c hits first =
    let r = c.args.recording.now in
    c.add_masters.ensures.readings hits
    (subst (λ (p : Place). IsFirstAt (place_by g.F.FrameReader.receiver.carrier r) hits p c.args.hit.now)
    (sym (c.detected_place-place.ensures ∙ ap (λ carrier. place_by carrier r c.args.hit.now) (ap (λ (s : Scheme). s.carrier) c.scheme.ensures.value))) first)

pub returns-in-None-clause-adds : goal.returns-in-None-clause-adds
returns-in-None-clause-adds g c new =
    let r = c.args.recording.now in
    adds_nothing g.F.FrameReader.receiver r c.args.hit.now c.detected_place-place.result (c.detected_place-place.ensures ∙ ap (λ carrier. place_by carrier r c.args.hit.now) (ap (λ (s : Scheme). s.carrier) c.scheme.ensures.value))
    c.args.list.now c.in-None.ensures.masters (adds_none c.args.list.now)
