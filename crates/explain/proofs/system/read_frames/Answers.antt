use Rattle.std.proofs.Common.{ℕ, ◌<◌, Bool, Result, refl, ap, sym, subst, arith}
use Rattle.arrayvec.specs.ArrayVec.{ArrayVec}
use Rattle.lte_types.specs.declared.sib1.Sib1.{Sib1}
use Rattle.lte_types.specs.declared.sib1_reason.Sib1Reason.{Sib1Reason}
use Rattle.explain.specs.Frame.{IsWhole}
use Rattle.explain.specs.Receiver.{subframes_by}
use Rattle.explain.specs.System.{even_frame, FrameAnswers}
use Rattle.explain.specs.Grant.{IsFrameAttempt}
use Rattle.explain.proofs.FirstFrame.{whole_before}
use Rattle.explain.proofs.Granted.{decoded_fields, reported_reason, none_granted_by, none_more, are_attempts}
use Rattle.explain.proofs.Information.{one_of_frame}
use Rattle.explain.proofs.Blocks.{first_block}
use Rattle.sib1_reader.specs.Attempt.{IsAttemptBlock}
use Rattle.explain.proofs.system.read_frames.Goals as goal

pub returns-then-is_ok-clause-read : goal.returns-then-is_ok-clause-read
returns-then-is_ok-clause-read g c =
    let r = c.args.recording.now in
    let values = subframes_by g.S.ReadSlot.carrier g.S.ReadSlot.values_by in
    let attempts = IsFrameAttempt values r c.args.place c.args.mib in
    let long = c.if-prove.false in
    let count = c.len-count.ensures.value in
    let early = c.start-start.ensures.early in
    (decoded_fields attempts (FrameAnswers values r c.args.place c.args.mib) (are_attempts values r c.args.place c.args.mib) r c.args.place.start c.args.sfn 0 c.attempt_at.result.attempt
    c.informed_by-decoded.result.sib1 c.informed_by-decoded.result.granted (record { among = omega arith; whole = omega (arith, long, count, early) })
    (subst (λ j. attempts j c.attempt_at.result.attempt) c.even_frame-first.ensures.value c.attempt_at.ensures.attempt) c.informed_by-decoded.ensures.sib1 c.informed_by-decoded.ensures.granted
    (sym c.if-is_ok.ensures.value) (λ h other before a. absurd (omega (arith, before)))).0

pub returns-then-is_ok-clause-granted : goal.returns-then-is_ok-clause-granted
returns-then-is_ok-clause-granted g c =
    let r = c.args.recording.now in
    let values = subframes_by g.S.ReadSlot.carrier g.S.ReadSlot.values_by in
    let attempts = IsFrameAttempt values r c.args.place c.args.mib in
    let long = c.if-prove.false in
    let count = c.len-count.ensures.value in
    let early = c.start-start.ensures.early in
    (decoded_fields attempts (FrameAnswers values r c.args.place c.args.mib) (are_attempts values r c.args.place c.args.mib) r c.args.place.start c.args.sfn 0 c.attempt_at.result.attempt
    c.informed_by-decoded.result.sib1 c.informed_by-decoded.result.granted (record { among = omega arith; whole = omega (arith, long, count, early) })
    (subst (λ j. attempts j c.attempt_at.result.attempt) c.even_frame-first.ensures.value c.attempt_at.ensures.attempt) c.informed_by-decoded.ensures.sib1 c.informed_by-decoded.ensures.granted
    (sym c.if-is_ok.ensures.value) (λ h other before a. absurd (omega (arith, before)))).1

pub returns-then-is_ok-clause-block : goal.returns-then-is_ok-clause-block
returns-then-is_ok-clause-block g c =
    let r = c.args.recording.now in
    let values = λ (j : ℕ). subframes_by g.S.ReadSlot.carrier g.S.ReadSlot.values_by r c.args.place j c.args.mib.duration c.args.mib.resource in
    let attempts = IsFrameAttempt (subframes_by g.S.ReadSlot.carrier g.S.ReadSlot.values_by) r c.args.place c.args.mib in
    let long = c.if-prove.false in
    let count = c.len-count.ensures.value in
    let early = c.start-start.ensures.early in
    first_block values r c.args.place.start c.args.sfn 0 c.attempt_at.result.attempt c.informed_by-decoded.result.sib1 c.attempt_at.result.block.items c.informed_by-decoded.result.block.items
    (record { among = omega arith; whole = omega (arith, long, count, early) })
    (subst (λ j. attempts j c.attempt_at.result.attempt) c.even_frame-first.ensures.value c.attempt_at.ensures.attempt)
    (subst (λ j. IsAttemptBlock (values j) c.attempt_at.result.attempt c.attempt_at.result.block.items) c.even_frame-first.ensures.value c.attempt_at.ensures.block)
    c.informed_by-decoded.ensures.sib1 (ap (λ (b : ArrayVec Bool). b.items) c.informed_by-decoded.ensures.block) (λ h other before a. absurd (omega (arith, before)))

pub returns-then-is_ok-2-clause-block : goal.returns-then-is_ok-2-clause-block
returns-then-is_ok-2-clause-block g c =
    let r = c.args.recording.now in
    let values = λ (j : ℕ). subframes_by g.S.ReadSlot.carrier g.S.ReadSlot.values_by r c.args.place j c.args.mib.duration c.args.mib.resource in
    let attempts = IsFrameAttempt (subframes_by g.S.ReadSlot.carrier g.S.ReadSlot.values_by) r c.args.place c.args.mib in
    first_block values r c.args.place.start c.args.sfn c.loop-i.i c.attempt_at-in-loop-i.result.attempt c.informed_by-later.result.sib1 c.attempt_at-in-loop-i.result.block.items
    c.informed_by-later.result.block.items
    (record { among = let l = c.loop-i-test.true in omega (arith, l); whole = subst (IsWhole r c.args.place.start) c.even_frame-j.ensures.value (c.if-not-is_whole.ensures.0 refl) })
    (subst (λ j. attempts j c.attempt_at-in-loop-i.result.attempt) c.even_frame-j.ensures.value c.attempt_at-in-loop-i.ensures.attempt)
    (subst (λ j. IsAttemptBlock (values j) c.attempt_at-in-loop-i.result.attempt c.attempt_at-in-loop-i.result.block.items) c.even_frame-j.ensures.value c.attempt_at-in-loop-i.ensures.block)
    c.informed_by-later.ensures.sib1 (ap (λ (b : ArrayVec Bool). b.items) c.informed_by-later.ensures.block) c.loop-i.invariant

pub loop-i-init : goal.loop-i-init
loop-i-init g c =
    let r = c.args.recording.now in
    let values = subframes_by g.S.ReadSlot.carrier g.S.ReadSlot.values_by in
    let attempts = IsFrameAttempt values r c.args.place c.args.mib in
    none_more attempts (FrameAnswers values r c.args.place c.args.mib) (are_attempts values r c.args.place c.args.mib) r c.args.place.start c.args.sfn
    (one_of_frame values r c.args.place c.args.mib) 0 c.attempt_at.result.attempt c.informed_by-decoded.result.sib1 (λ h other before a. absurd (omega (arith, before)))
    (subst (λ j. attempts j c.attempt_at.result.attempt) c.even_frame-first.ensures.value c.attempt_at.ensures.attempt) c.informed_by-decoded.ensures.sib1 (sym c.if-is_ok.ensures.value)

pub returns-then-not-is_whole-clause-read : goal.returns-then-not-is_whole-clause-read
returns-then-not-is_whole-clause-read g c =
    let r = c.args.recording.now in
    let values = subframes_by g.S.ReadSlot.carrier g.S.ReadSlot.values_by in
    let attempts = IsFrameAttempt values r c.args.place c.args.mib in
    let answers = FrameAnswers values r c.args.place c.args.mib in
    let are = are_attempts values r c.args.place c.args.mib in
    reported_reason attempts answers are r c.args.place.start c.args.sfn c.informed_by-decoded.result.sib1 (sym c.if-is_ok.ensures.value)
    (subst (λ (answer : Result Sib1 Sib1Reason). answers (even_frame c.args.sfn 0) answer) (sym c.informed_by-decoded.ensures.sib1)
    (are.answers (even_frame c.args.sfn 0) c.attempt_at.result.attempt (subst (λ j. attempts j c.attempt_at.result.attempt) c.even_frame-first.ensures.value c.attempt_at.ensures.attempt)))
    (λ i fields tried a.
    let whole = tried.whole in
    let j : even_frame c.args.sfn i < even_frame c.args.sfn c.loop-i.i =
    whole_before r c.args.place.start (even_frame c.args.sfn i) (even_frame c.args.sfn c.loop-i.i)
    (λ w. c.if-not-is_whole.ensures.1 (subst (IsWhole r c.args.place.start) (sym c.even_frame-j.ensures.value) w)) whole in
    c.loop-i.invariant i fields (omega (arith, j)) a)

pub returns-then-not-is_whole-clause-granted : goal.returns-then-not-is_whole-clause-granted
returns-then-not-is_whole-clause-granted g c =
    let r = c.args.recording.now in
    let values = subframes_by g.S.ReadSlot.carrier g.S.ReadSlot.values_by in
    none_granted_by (IsFrameAttempt values r c.args.place c.args.mib) (FrameAnswers values r c.args.place c.args.mib) (are_attempts values r c.args.place c.args.mib)
    r c.args.place.start c.args.sfn c.attempt_at.result.attempt c.informed_by-decoded.result.sib1 c.informed_by-decoded.result.granted (sym c.if-is_ok.ensures.value) c.informed_by-decoded.ensures.sib1 c.informed_by-decoded.ensures.granted

pub returns-then-is_ok-2-clause-read : goal.returns-then-is_ok-2-clause-read
returns-then-is_ok-2-clause-read g c =
    let r = c.args.recording.now in
    let values = subframes_by g.S.ReadSlot.carrier g.S.ReadSlot.values_by in
    let attempts = IsFrameAttempt values r c.args.place c.args.mib in
    (decoded_fields attempts (FrameAnswers values r c.args.place c.args.mib) (are_attempts values r c.args.place c.args.mib) r c.args.place.start c.args.sfn c.loop-i.i c.attempt_at-in-loop-i.result.attempt
    c.informed_by-later.result.sib1 c.informed_by-later.result.granted
    (record { among = let l = c.loop-i-test.true in omega (arith, l); whole = subst (IsWhole r c.args.place.start) c.even_frame-j.ensures.value (c.if-not-is_whole.ensures.0 refl) })
    (subst (λ j. attempts j c.attempt_at-in-loop-i.result.attempt) c.even_frame-j.ensures.value c.attempt_at-in-loop-i.ensures.attempt) c.informed_by-later.ensures.sib1 c.informed_by-later.ensures.granted
    (sym c.if-is_ok-2.ensures.value) c.loop-i.invariant).0

pub returns-then-is_ok-2-clause-granted : goal.returns-then-is_ok-2-clause-granted
returns-then-is_ok-2-clause-granted g c =
    let r = c.args.recording.now in
    let values = subframes_by g.S.ReadSlot.carrier g.S.ReadSlot.values_by in
    let attempts = IsFrameAttempt values r c.args.place c.args.mib in
    (decoded_fields attempts (FrameAnswers values r c.args.place c.args.mib) (are_attempts values r c.args.place c.args.mib) r c.args.place.start c.args.sfn c.loop-i.i c.attempt_at-in-loop-i.result.attempt
    c.informed_by-later.result.sib1 c.informed_by-later.result.granted
    (record { among = let l = c.loop-i-test.true in omega (arith, l); whole = subst (IsWhole r c.args.place.start) c.even_frame-j.ensures.value (c.if-not-is_whole.ensures.0 refl) })
    (subst (λ j. attempts j c.attempt_at-in-loop-i.result.attempt) c.even_frame-j.ensures.value c.attempt_at-in-loop-i.ensures.attempt) c.informed_by-later.ensures.sib1 c.informed_by-later.ensures.granted
    (sym c.if-is_ok-2.ensures.value) c.loop-i.invariant).1

pub loop-i-preserved : goal.loop-i-preserved
loop-i-preserved g c =
    let r = c.args.recording.now in
    let values = subframes_by g.S.ReadSlot.carrier g.S.ReadSlot.values_by in
    let attempts = IsFrameAttempt values r c.args.place c.args.mib in
    none_more attempts (FrameAnswers values r c.args.place c.args.mib) (are_attempts values r c.args.place c.args.mib) r c.args.place.start c.args.sfn
    (one_of_frame values r c.args.place c.args.mib) c.loop-i.i c.attempt_at-in-loop-i.result.attempt c.informed_by-later.result.sib1 c.loop-i.invariant
    (subst (λ j. attempts j c.attempt_at-in-loop-i.result.attempt) c.even_frame-j.ensures.value c.attempt_at-in-loop-i.ensures.attempt) c.informed_by-later.ensures.sib1 (sym c.if-is_ok-2.ensures.value)

pub returns-clause-read : goal.returns-clause-read
returns-clause-read g c =
    let r = c.args.recording.now in
    let values = subframes_by g.S.ReadSlot.carrier g.S.ReadSlot.values_by in
    let attempts = IsFrameAttempt values r c.args.place c.args.mib in
    let answers = FrameAnswers values r c.args.place c.args.mib in
    let are = are_attempts values r c.args.place c.args.mib in
    reported_reason attempts answers are r c.args.place.start c.args.sfn c.informed_by-decoded.result.sib1 (sym c.if-is_ok.ensures.value)
    (subst (λ (answer : Result Sib1 Sib1Reason). answers (even_frame c.args.sfn 0) answer) (sym c.informed_by-decoded.ensures.sib1)
    (are.answers (even_frame c.args.sfn 0) c.attempt_at.result.attempt (subst (λ j. attempts j c.attempt_at.result.attempt) c.even_frame-first.ensures.value c.attempt_at.ensures.attempt)))
    (λ i fields tried a. c.loop-i.invariant i fields (let l = tried.among in let end = c.loop-i-test.false in omega (arith, l, end)) a)

pub returns-clause-granted : goal.returns-clause-granted
returns-clause-granted g c =
    let r = c.args.recording.now in
    let values = subframes_by g.S.ReadSlot.carrier g.S.ReadSlot.values_by in
    none_granted_by (IsFrameAttempt values r c.args.place c.args.mib) (FrameAnswers values r c.args.place c.args.mib) (are_attempts values r c.args.place c.args.mib)
    r c.args.place.start c.args.sfn c.attempt_at.result.attempt c.informed_by-decoded.result.sib1 c.informed_by-decoded.result.granted (sym c.if-is_ok.ensures.value) c.informed_by-decoded.ensures.sib1 c.informed_by-decoded.ensures.granted
