use Rattle.std.proofs.Common.{◌+◌, take, sym, subst}
use Rattle.std.specs.Prelude.{All}
use Rattle.std.specs.List.{AllZip}
use Rattle.std.proofs.lemmas.List.Elements.{All-push}
use Rattle.evidence.specs.declared.measured.Measured.{Measured}
use Rattle.evidence.specs.Evidence.{IsMeasuredFor, IsInRange}
use Rattle.evidence.proofs.Each.{each_more, has_reading, is_read}
use Rattle.evidence.proofs.listing.evidence_of_list.Goals as goal

pub bounds-readings-i : goal.bounds-readings-i
bounds-readings-i g c = has_reading g.receiver c.args.recording.now c.args.entries.now c.args.readings.now c.requires.1.1 c.loop-i.i c.loop-i-test.true

pub measured_and_slot-measured-requires : goal.measured_and_slot-measured-requires
measured_and_slot-measured-requires g c = (
  c.requires.0,
  is_read g.receiver c.args.recording.now c.args.entries.now c.args.readings.now c.requires.1.1 c.loop-i.i c.loop-i-test.true _ _ c.requires.1.0 c.index-entries-i.is c.index-readings-i.is,
)

pub loop-i-preserved : goal.loop-i-preserved
loop-i-preserved g c =
    let items = sym c.in_ok-push.ensures.items in
    let before = c.loop-i.invariant in
    let one = c.measured_and_slot-measured.ensures in
    record {
      each = subst (λ list. AllZip (IsMeasuredFor g.receiver c.args.recording.now) (take (c.loop-i.i + 1) c.args.entries.now) list) items
          (each_more (IsMeasuredFor g.receiver c.args.recording.now) _ _ _ _ _ c.loop-i-test.true c.index-entries-i.is before.each one.measured);
      ranges = subst (All (λ (measured : Measured). IsInRange measured.numbers)) items (All-push (λ (measured : Measured). IsInRange measured.numbers) _ _ before.ranges one.range);
    }
