use Rattle.std.proofs.Common.{arith}
use Rattle.std.proofs.lemmas.List.Elements.{AllWithin-more, at_read}
use Rattle.wide_list.specs.First.{HasNone}
use Rattle.wide_list.specs.Together.{HasFieldsTogether, HasBitsTogether}
use Rattle.wide_list.proofs.Exists.{none_together}
use Rattle.wide_list.proofs.First.{first_here}
use Rattle.wide_list.proofs.Blocks.{AreIn, fields_together}
use Rattle.wide_list.proofs.together.first_together.Goals as goal

pub loop-frame-preserved : goal.loop-frame-preserved
loop-frame-preserved c =
    let frames = c.args.frames.now in
    let at = c.loop-frame.frame-index in
    AllWithin-more (HasNone (HasFieldsTogether frames)) frames 0 at c.loop-frame.invariant
    (at_read frames (HasNone (HasFieldsTogether frames)) at c.frame-item.result c.loop-frame-test.true c.frame-item.is
    (none_together frames c.frame-item.result c.in-None.ensures.fields))

pub returns-clause-fields : goal.returns-clause-fields
returns-clause-fields c k d inside =
    let end = c.loop-frame-test.false in c.loop-frame.invariant k d (omega arith) (omega (arith, inside, end))

pub returns-in-Some-clause-bits : goal.returns-in-Some-clause-bits
returns-in-Some-clause-bits c =
    let frames = c.args.frames.now in
    first_here (HasFieldsTogether frames) (HasBitsTogether frames) AreIn (fields_together frames) frames c.loop-frame.frame-index c.frame-item.result
    c.in-Some.found.bits.items c.loop-frame-test.true c.frame-item.is c.loop-frame.invariant c.in-Some.ensures.bits
