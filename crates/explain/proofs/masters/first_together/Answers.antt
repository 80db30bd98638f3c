use Rattle.std.proofs.Common.{◌+◌, ◌≤◌, length, arith, sym, subst, below_more, ◌∙◌}
use Rattle.explain.specs.Window.{NoneIsDecoded}
use Rattle.explain.specs.Entries.{IsMasterFor}
use Rattle.explain.specs.Masters.{HaveMasters}
use Rattle.explain.proofs.FirstFrame.{length-part, received_part}
use Rattle.explain.proofs.masters.first_together.Goals as goal

pub loop-frame-init : goal.loop-frame-init
loop-frame-init g c recording are i below = absurd (omega (arith, below))

pub returns-in-Some-clause-masters : goal.returns-in-Some-clause-masters
returns-in-Some-clause-masters g c recording are =
    let receiver = g.F.FrameReader.receiver in
    let place = c.args.cell.now in
    let count = c.args.count in
    let frames = c.args.frames.now in
    let frame = c.loop-frame.frame in
    let some = c.requires.some in
    let end = c.saturating_sub-frame-end.ensures in
    let test = c.loop-frame-test.true in
    let inside : frame + count ≤ length frames = omega (arith, some, end, test) in
    let size = length-part frame count frames inside in
    let (counts, at, have) = c.in-Some.ensures.masters recording (received_part (receiver.broadcast recording place) frame count frames inside are) in (
      counts ∙ size,
      record {
        within = omega (arith, at, inside);
        first = λ i below. c.loop-frame.invariant recording are i (omega (arith, below, at));
        have = subst (λ j. HaveMasters (IsMasterFor receiver recording) place count j c.in-Some.found.at) (sym at)
            (subst (λ n. HaveMasters (IsMasterFor receiver recording) place n frame c.in-Some.found.at) size have);
      },
    )

pub returns-in-Some-clause-sums : goal.returns-in-Some-clause-sums
returns-in-Some-clause-sums g c recording are =
    let count = c.args.count in
    let some = c.requires.some in
    let end = c.saturating_sub-frame-end.ensures in
    let test = c.loop-frame-test.true in
    let inside : c.loop-frame.frame + count ≤ length c.args.frames.now = omega (arith, some, end, test) in
    c.in-Some.ensures.sums recording (received_part (g.F.FrameReader.receiver.broadcast recording c.args.cell.now) c.loop-frame.frame count c.args.frames.now inside are)

pub loop-frame-preserved : goal.loop-frame-preserved
loop-frame-preserved g c recording are =
    let receiver = g.F.FrameReader.receiver in
    let place = c.args.cell.now in
    let count = c.args.count in
    let frames = c.args.frames.now in
    let frame = c.loop-frame.frame in
    let some = c.requires.some in
    let end = c.saturating_sub-frame-end.ensures in
    let test = c.loop-frame-test.true in
    let inside : frame + count ≤ length frames = omega (arith, some, end, test) in
    below_more (λ i. NoneIsDecoded (IsMasterFor receiver recording) place count i) frame (c.loop-frame.invariant recording are)
    (subst (λ n. NoneIsDecoded (IsMasterFor receiver recording) place n frame) (length-part frame count frames inside)
    (c.in-None.ensures.masters recording (received_part (receiver.broadcast recording place) frame count frames inside are)))

pub returns-clause-masters : goal.returns-clause-masters
returns-clause-masters g c recording are j within =
    let some = c.requires.some in
    let end = c.saturating_sub-frame-end.ensures in
    let test = c.loop-frame-test.false in
    c.loop-frame.invariant recording are j (omega (arith, some, end, test, within))
