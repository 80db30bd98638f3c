use Rattle.std.proofs.Common.{◌≡◌, ◌∙◌, ◌≤◌, inl, inr, length, ap, arith, sym, subst, below_more}
use Rattle.std.proofs.lemmas.Bool.{cases_lt}
use Rattle.explain.specs.declared.scheme.Scheme.{Scheme}
use Rattle.explain.specs.Entries.{IsMasterFor}
use Rattle.explain.specs.Masters.{AreFirstWith}
use Rattle.explain.specs.Readings.{AreSums}
use Rattle.explain.specs.Receiver.{sums_by}
use Rattle.explain.specs.Received.{AreReceived, AreFirstOf, NoneDecodes}
use Rattle.explain.specs.Window.{HasNoMasters}
use Rattle.explain.proofs.Received.{first_with, no_masters, too_many, whole_at}
use Rattle.explain.proofs.masters.first_masters.Goals as goal

pub returns-in-Some-clause-masters : goal.returns-in-Some-clause-masters
returns-in-Some-clause-masters g c =
    let decodes = IsMasterFor g.F.FrameReader.receiver c.args.recording.now in
    let here = c.new-cell.ensures in
    let whole = whole_at c.args.recording.now _ _ here c.whole_frames-whole.result c.whole_frames-whole.ensures.whole c.whole_frames-whole.ensures.all in
    let found = c.in-Some.found in
    let (counts, first) = c.in-Some.ensures.found in
    subst (λ n. AreFirstWith decodes c.args.recording.now c.args.place n found.frame found.at) (sym counts)
    (subst (λ place. AreFirstWith decodes c.args.recording.now place 1 found.frame found.at) here
    (first_with decodes c.args.recording.now c.new-cell.result c.whole_frames-whole.result c.whole_frames-whole.ensures.few whole.0 whole.1 1 found.frame found.at (omega arith) (omega arith)
    (λ fewer some less. absurd (omega (arith, some, less))) first))

pub returns-in-Some-clause-sums : goal.returns-in-Some-clause-sums
returns-in-Some-clause-sums g c =
    let found = c.in-Some.found in
    subst (λ place. AreSums (sums_by g.F.FrameReader.receiver c.args.recording.now place) found.frames found.frame found.sums) c.new-cell.ensures c.in-Some.ensures.sums

pub loop-count-init : goal.loop-count-init
loop-count-init g c few some below =
    let one : 1 ≡ few = omega (arith, some, below) in
    subst (NoneDecodes (IsMasterFor g.F.FrameReader.receiver c.args.recording.now) c.new-cell.result c.whole_frames-whole.result) one c.in-None.ensures.found

pub returns-in-Some-first_together-clause-masters : goal.returns-in-Some-first_together-clause-masters
returns-in-Some-first_together-clause-masters g c =
    let receiver = g.F.FrameReader.receiver in
    let recording = c.args.recording.now in
    let decodes = IsMasterFor receiver recording in
    let here = c.new-cell.ensures in
    let place = c.new-cell.result in
    let whole = whole_at recording _ _ here c.whole_frames-whole.result c.whole_frames-whole.ensures.whole c.whole_frames-whole.ensures.all in
    let found = c.in-Some-first_together.found in
    let test = c.loop-count-test.true in
    let most = c.scheme-most.ensures.few in
    let from = c.loop-count.auto in
    let (all, received) = c.in-None.ensures.received in
    let size : length c.as_slice.result.now ≡ c.whole_frames-whole.result = ap length c.as_slice.ensures.value ∙ all in
    let (counts, first) = c.in-Some-first_together.ensures.masters recording (subst (AreReceived (receiver.broadcast recording place) 0) (sym c.as_slice.ensures.value) received) in
    subst (λ n. AreFirstWith decodes recording c.args.place n found.frame found.at) (sym counts)
    (subst (λ place. AreFirstWith decodes recording place c.loop-count.count found.frame found.at) here
    (first_with decodes recording place c.whole_frames-whole.result c.whole_frames-whole.ensures.few whole.0 whole.1 c.loop-count.count found.frame found.at (omega arith) (omega (arith, test, most))
    c.loop-count.invariant (subst (λ n. AreFirstOf decodes place n c.loop-count.count found.frame found.at) size first)))

pub returns-in-Some-first_together-clause-sums : goal.returns-in-Some-first_together-clause-sums
returns-in-Some-first_together-clause-sums g c =
    let receiver = g.F.FrameReader.receiver in
    let recording = c.args.recording.now in
    let found = c.in-Some-first_together.found in
    let (all, received) = c.in-None.ensures.received in
    subst (λ place. AreSums (sums_by receiver recording place) found.frames found.frame found.sums) c.new-cell.ensures
    (c.in-Some-first_together.ensures.sums recording (subst (AreReceived (receiver.broadcast recording c.new-cell.result) 0) (sym c.as_slice.ensures.value) received))

pub loop-count-preserved : goal.loop-count-preserved
loop-count-preserved g c few some below =
    let receiver = g.F.FrameReader.receiver in
    let recording = c.args.recording.now in
    let decodes = IsMasterFor receiver recording in
    let whole = c.whole_frames-whole.result in
    let place = c.new-cell.result in
    let (all, received) = c.in-None.ensures.received in
    let size : length c.as_slice.result.now ≡ whole = ap length c.as_slice.ensures.value ∙ all in
    below_more (λ n. 1 ≤ n → NoneDecodes decodes place whole n) c.loop-count.count (λ n less one. c.loop-count.invariant n one less)
    (λ one. subst (λ n. NoneDecodes decodes place n c.loop-count.count) size
    (c.in-None-first_together.ensures.masters recording (subst (AreReceived (receiver.broadcast recording place) 0) (sym c.as_slice.ensures.value) received))) few below some

pub returns-clause-masters : goal.returns-clause-masters
returns-clause-masters g c =
    let recording = c.args.recording.now in
    let decodes = IsMasterFor g.F.FrameReader.receiver recording in
    let here = c.new-cell.ensures in
    let whole = whole_at recording _ _ here c.whole_frames-whole.result c.whole_frames-whole.ensures.whole c.whole_frames-whole.ensures.all in
    let test = c.loop-count-test.false in
    let most = ap (λ (s : Scheme). s.most_frames) c.scheme-most.ensures.value in
    subst (HasNoMasters decodes recording) here
    (no_masters decodes recording c.new-cell.result c.whole_frames-whole.result c.whole_frames-whole.ensures.few whole.0 whole.1
    (λ count some small. elim (cases_lt g.F.FrameReader.receiver.most_frames count) [
      | inl more ↦ too_many g.F.FrameReader.receiver recording c.new-cell.result c.whole_frames-whole.result count more
      | inr fits ↦ c.loop-count.invariant count some (omega (arith, most, fits, test))
    ]))
