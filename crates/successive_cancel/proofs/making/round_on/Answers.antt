use Rattle.std.proofs.Common.{refl, sym, subst, arith, List}
use Rattle.std.specs.List.{AllZip}
use Rattle.std.proofs.lemmas.List.{take_all}
use Rattle.std.proofs.lemmas.Slice.Zip.{AllZip-long}
use Rattle.explain.specs.declared.readings.Reading.{Reading}
use Rattle.explain.specs.Grant.{IsGrantOf}
use Rattle.explain.specs.Readings.{IsReading}
use Rattle.finite.proofs.Zips.{zip_read}
use Rattle.successive_cancel.specs.Rounds.{NoneIsTakenOff}
use Rattle.successive_cancel.proofs.Taking.{round_at, none_more}
use Rattle.successive_cancel.proofs.making.round_on.Goals as goal

pub bounds-readings-i : goal.bounds-readings-i
bounds-readings-i c =
    let long = AllZip-long (IsReading c.args.recording.now) c.args.list.now c.loop-i.work c.loop-i.invariant.readings in
    let inside = c.loop-i-test.true in
    rw c.readings.ensures (omega (arith, long, inside))

pub bounds-readings-i-in-loop-i : goal.bounds-readings-i-in-loop-i
bounds-readings-i-in-loop-i c = bounds-readings-i c

pub taken_off-requires-clause-granted : goal.taken_off-requires-clause-granted
taken_off-requires-clause-granted c =
    subst (λ (reading : Reading). IsGrantOf c.args.recording.now c.index-list-i.result reading.granted) c.index-readings-i.is
    (zip_read (IsReading c.args.recording.now) c.args.list.now c.readings.result.now c.loop-i.i _ _
    (subst (λ (readings : List Reading). AllZip (IsReading c.args.recording.now) c.args.list.now readings) (sym c.readings.ensures) c.loop-i.invariant.readings)
    c.loop-i-test.true c.index-list-i.is c.index-readings-i.is).granted

pub returns-in-Some-clause-next : goal.returns-in-Some-clause-next
returns-in-Some-clause-next c =
    round_at c.args.recording.now c.args.list.now c.loop-i.i c.index-list-i.result _ _ c.in_ok-taken.field-0 c.index-list-i.is c.loop-i-test.true c.loop-i.invariant.none c.in_ok-taken.ensures
    c.in-Some.is refl c.in_ok-list-in-Some.ensures.list

pub returns-in-Some-clause-readings : goal.returns-in-Some-clause-readings
returns-in-Some-clause-readings c = c.in_ok-list-in-Some.ensures.readings

pub loop-i-preserved : goal.loop-i-preserved
loop-i-preserved c = record {
  none = none_more c.args.recording.now c.args.list.now c.loop-i.i c.index-list-i.result _ c.in_ok-taken.field-0 c.index-list-i.is c.loop-i-test.true c.loop-i.invariant.none c.in_ok-taken.ensures
      c.in-None.is;
  readings = c.loop-i.invariant.readings;
}

pub returns-clause-next : goal.returns-clause-next
returns-clause-next c = subst (NoneIsTakenOff c.args.recording.now) (take_all c.loop-i.i c.args.list.now c.loop-i-test.false) c.loop-i.invariant.none
