use Rattle.std.proofs.Common.{◌≡◌, Bool, true, false, List, ap, arith, refl, sym, subst}
use Rattle.std.specs.List.{AllZip}
use Rattle.std.proofs.lemmas.Option.{slice_get-get_or}
use Rattle.std.proofs.lemmas.List.{take_more}
use Rattle.lte_types.specs.declared.hit.Hit.{Hit}
use Rattle.lte_types.specs.CellPlace.{Place}
use Rattle.explain.specs.declared.notes.Notes.{Notes}
use Rattle.explain.specs.Places.{is_met}
use Rattle.explain.specs.Receiver.{place_by}
use Rattle.explain.specs.Entries.{AreEntriesFor, IsListOfHits}
use Rattle.explain.specs.Readings.{IsReadingOf}
use Rattle.explain.proofs.Again.{AreMet, listed_more, met_more}
use Rattle.explain.proofs.Beside.{all_more, first_at}
use Rattle.explain.proofs.reading.add_hits.Goals as goal

settle : {Goal : Type 0} (places : List Place) (place : Place) → (is_met places place ≡ false → Goal) → (is_met places place ≡ true → Goal) → Goal
settle {Goal = Goal} places place new again = by_test (is_met places place) refl
  where
    by_test : (b : Bool) → is_met places place ≡ b → Goal
    by_test true e = again e
    by_test false e = new e

pub loop-hit-preserved : goal.loop-hit-preserved
loop-hit-preserved g c =
    let nowhere : Hit = record { t = 0; n2 = 0; peak = 0; energy = 0 } in
    let r = c.args.recording.now in
    let receiver = g.F.FrameReader.receiver in
    let place_of = place_by receiver.carrier r in
    let before = c.loop-hit.invariant in
    let is = slice_get-get_or c.args.hits.now c.loop-hit.hit-index nowhere c.loop-hit-test.true in
    let more = take_more c.args.hits.now c.loop-hit.hit-index nowhere c.loop-hit-test.true in
    record {
      listed = subst (λ (hits : List Hit). IsListOfHits (AreEntriesFor receiver r) hits c.add_hit.new.list) (sym more)
          (listed_more receiver r _ _ c.loop-hit.notes.places before.met c.loop-hit.list c.add_hit.new.list before.listed c.add_hit.ensures.again c.add_hit.ensures.adds);
      few = omega arith;
      met = subst (λ (hits : List Hit). AreMet place_of hits c.add_hit.new.notes.places) (sym more)
          (met_more receiver r _ _ c.loop-hit.notes.places before.met c.add_hit.new.notes.places (λ again. ap (λ (n : Notes). n.places) (c.add_hit.ensures.same again)) c.add_hit.ensures.met);
      few_met = omega arith;
      all_met = all_more place_of c.args.hits.now c.loop-hit.hit-index _ is c.loop-hit.notes.places before.all_met c.add_hit.new.notes.places
          (λ again. ap (λ (n : Notes). n.places) (c.add_hit.ensures.same again)) c.add_hit.ensures.met;
      beside = c.add_hit.ensures.beside;
      readings = settle c.loop-hit.notes.places _ (λ new. c.add_hit.ensures.readings c.args.hits.now (first_at place_of c.args.hits.now c.loop-hit.hit-index _ is c.loop-hit.notes.places before.all_met new) before.readings)
          (λ again. subst (λ xs. AllZip (IsReadingOf receiver r c.args.hits.now) xs c.add_hit.new.notes.readings) (sym (c.add_hit.ensures.again again))
          (subst (λ (n : Notes). AllZip (IsReadingOf receiver r c.args.hits.now) c.loop-hit.list n.readings) (sym (c.add_hit.ensures.same again)) before.readings));
    }
