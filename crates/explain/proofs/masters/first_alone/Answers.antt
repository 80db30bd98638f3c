use Rattle.std.proofs.Common.{◌≡◌, ◌∙◌, ◌+◌, ◌≤◌, List, [], ◌∷◌, ◌++◌, ℤ, length, ap, arith, sym, subst, below_more}
use Rattle.std.proofs.lemmas.List.Elements.{All-push, All-same}
use Rattle.explain.specs.Entries.{IsMasterFor}
use Rattle.explain.specs.Masters.{HaveMasters}
use Rattle.explain.specs.Received.{AreReceived}
use Rattle.explain.specs.Window.{NoneIsDecoded}
use Rattle.explain.proofs.FirstFrame.{length-part, received_part, received_more}
use Rattle.explain.proofs.masters.first_alone.Goals as goal

pub returns-in-Some-clause-found : goal.returns-in-Some-clause-found
returns-in-Some-clause-found g c =
    let receiver = g.F.FrameReader.receiver in
    let recording = c.args.recording.now in
    let place = c.args.cell.now in
    let values = receiver.broadcast recording place in
    let frame = c.loop-frame.frame in
    let test = c.loop-frame-test.true in
    let before = c.loop-frame.invariant in
    let are = received_more values frame c.loop-frame.frames.items c.received.result c.push.new.self.items before.count (c.received.ensures.values ∙ ap (λ place. receiver.broadcast recording place frame) c.place.ensures) c.push.ensures.items before.received in
    let all = ap (λ (frames : List (List ℤ)). length frames) c.as_slice.ensures.value in
    let inside : frame + 1 ≤ length c.as_slice.result.now = omega (arith, all, before.count, c.push.ensures.len) in
    let last = received_part values frame 1 c.as_slice.result.now inside (subst (AreReceived values 0) (sym c.as_slice.ensures.value) are) in
    let size = length-part frame 1 c.as_slice.result.now inside in
    let (counts, at, have) = c.in-Some.ensures.masters recording last in (
      counts ∙ size,
      record {
        within = omega (arith, at, test);
        first = λ i below. before.none i (omega (arith, below, at));
        have = subst (λ j. HaveMasters (IsMasterFor receiver recording) place 1 j c.in-Some.found.at) (sym at)
            (subst (λ n. HaveMasters (IsMasterFor receiver recording) place n frame c.in-Some.found.at) size have);
      },
    )

pub returns-in-Some-clause-sizes : goal.returns-in-Some-clause-sizes
returns-in-Some-clause-sizes g c =
    let P = λ (frame : List ℤ). length frame ≡ g.F.FrameReader.receiver.count in
    All-same P c.push.new.self.items (c.loop-frame.frames.items ++ c.received.result ∷ []) c.push.ensures.items (All-push P c.loop-frame.frames.items c.received.result c.loop-frame.invariant.sizes c.received.ensures.length)

pub loop-frame-preserved : goal.loop-frame-preserved
loop-frame-preserved g c =
    let receiver = g.F.FrameReader.receiver in
    let recording = c.args.recording.now in
    let place = c.args.cell.now in
    let values = receiver.broadcast recording place in
    let frame = c.loop-frame.frame in
    let before = c.loop-frame.invariant in
    let P = λ (frame : List ℤ). length frame ≡ receiver.count in
    let are = received_more values frame c.loop-frame.frames.items c.received.result c.push.new.self.items before.count (c.received.ensures.values ∙ ap (λ place. receiver.broadcast recording place frame) c.place.ensures) c.push.ensures.items before.received in
    let all = ap (λ (frames : List (List ℤ)). length frames) c.as_slice.ensures.value in
    let inside : frame + 1 ≤ length c.as_slice.result.now = omega (arith, all, before.count, c.push.ensures.len) in
    let last = received_part values frame 1 c.as_slice.result.now inside (subst (AreReceived values 0) (sym c.as_slice.ensures.value) are) in
    let size = length-part frame 1 c.as_slice.result.now inside in
    record {
      none = below_more (λ i. NoneIsDecoded (IsMasterFor receiver recording) place 1 i) frame before.none
          (subst (λ n. NoneIsDecoded (IsMasterFor receiver recording) place n frame) size (c.in-None.ensures.masters recording last));
      received = are;
      sizes = All-same P c.push.new.self.items (c.loop-frame.frames.items ++ c.received.result ∷ []) c.push.ensures.items (All-push P c.loop-frame.frames.items c.received.result before.sizes c.received.ensures.length);
      count = c.push.ensures.len ∙ ap (λ n. n + 1) before.count;
    }

pub returns-clause-found : goal.returns-clause-found
returns-clause-found g c j within =
    let test = c.loop-frame-test.false in
    c.loop-frame.invariant.none j (omega (arith, within, test))
