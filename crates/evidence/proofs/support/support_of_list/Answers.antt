use Rattle.std.proofs.Common.{◌+◌, take, sym, subst}
use Rattle.std.specs.List.{AllZip}
use Rattle.evidence.specs.Shown.{IsShownFor}
use Rattle.evidence.proofs.Each.{each_more, has_reading, is_read}
use Rattle.evidence.proofs.support.support_of_list.Goals as goal

pub bounds-readings-i : goal.bounds-readings-i
bounds-readings-i g c = has_reading g.receiver c.args.recording.now c.args.entries.now c.args.readings.now c.requires.1.1 c.loop-i.i c.loop-i-test.true

pub support_of-requires : goal.support_of-requires
support_of-requires g c = (
  c.requires.0,
  is_read g.receiver c.args.recording.now c.args.entries.now c.args.readings.now c.requires.1.1 c.loop-i.i c.loop-i-test.true _ _ c.requires.1.0 c.index-entries-i.is c.index-readings-i.is,
)

pub loop-i-preserved : goal.loop-i-preserved
loop-i-preserved g c =
    subst (λ list. AllZip (IsShownFor g.receiver c.args.recording.now) (take (c.loop-i.i + 1) c.args.entries.now) list) (sym c.in_ok-push.ensures.items)
    (each_more (IsShownFor g.receiver c.args.recording.now) _ _ _ _ _ c.loop-i-test.true c.index-entries-i.is c.loop-i.invariant c.in_ok-support.ensures)
