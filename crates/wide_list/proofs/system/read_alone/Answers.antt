use Rattle.std.proofs.Common.{◌≡◌, ◌∙◌, ℕ, ◌+◌, ◌++◌, ◌∷◌, [], Err, List, length, get_or, arith, ap, sym, subst}
use Rattle.std.proofs.lemmas.List.{length_push}
use Rattle.halving.specs.Wide.{narrowed}
use Rattle.explain.specs.Frame.{IsWhole}
use Rattle.explain.specs.System.{even_frame}
use Rattle.wide_list.specs.Frames.{Frame, IsFrame, IsAlone}
use Rattle.wide_list.proofs.Reading.{each_more, none_more, first_more}
use Rattle.wide_list.proofs.Blocks.{alone_block}
use Rattle.wide_list.proofs.system.read_alone.Goals as goal

pub frame_in-requires-clause-whole : goal.frame_in-requires-clause-whole
frame_in-requires-clause-whole c =
    let tried = (c.tried_frames-count.ensures.tried c.loop-i.i).0 c.loop-i-test.true in
    subst (IsWhole (narrowed c.args.wide.now) c.args.found.now.start) (sym c.even_frame.ensures.value) tried.whole

pub returns-in-Ok-clause-read : goal.returns-in-Ok-clause-read
returns-in-Ok-clause-read c =
    let wide = c.args.wide.now in
    let found = c.args.found.now in
    record {
      i = c.loop-i.i;
      tried = (c.tried_frames-count.ensures.tried c.loop-i.i).0 c.loop-i-test.true;
      answers = record {
        frame = c.in_ok-frame.frame;
        is = subst (λ j. IsFrame wide found.cell found.start found.sfn j c.in_ok-frame.frame) c.even_frame.ensures.value c.in_ok-frame.ensures;
        answers = c.in-Ok.ensures.answer;
      };
      first = c.loop-i.invariant.none;
    }

pub returns-in-Ok-clause-bits : goal.returns-in-Ok-clause-bits
returns-in-Ok-clause-bits c =
    let wide = c.args.wide.now in
    let found = c.args.found.now in
    let i = c.loop-i.i in
    let frame = c.in_ok-frame.frame in
    let is : IsFrame wide found.cell found.start found.sfn (even_frame found.sfn i) frame =
    subst (λ j. IsFrame wide found.cell found.start found.sfn j frame) c.even_frame.ensures.value c.in_ok-frame.ensures in
    alone_block wide found.cell found.start found.sfn i frame c.in-Ok.block.bits.items
    ((c.tried_frames-count.ensures.tried i).0 c.loop-i-test.true) is c.in-Ok.ensures.bits c.loop-i.invariant.none

pub loop-i-preserved : goal.loop-i-preserved
loop-i-preserved c =
    let wide = c.args.wide.now in
    let found = c.args.found.now in
    let i = c.loop-i.i in
    let frame = c.in_ok-frame.frame in
    let before = c.loop-i.invariant in
    let old = c.loop-i.frames.items in
    let is : IsFrame wide found.cell found.start found.sfn (even_frame found.sfn i) frame =
    subst (λ j. IsFrame wide found.cell found.start found.sfn j frame) c.even_frame.ensures.value c.in_ok-frame.ensures in
    let alone : IsAlone wide found.cell found.start found.sfn (even_frame found.sfn i) (Err c.in-Err.other) =
    record { frame = frame; is = is; answers = c.in-Err.ensures.answer } in
    let pushed : c.push.new.self.items ≡ old ++ frame ∷ [] = c.in_ok-push.ensures.items in
    let P : ℕ → Frame → Type 0 = λ h frame. IsFrame wide found.cell found.start found.sfn (even_frame found.sfn h) frame in
    record {
      size = ap (λ (frames : List Frame). length frames) pushed ∙ length_push old frame ∙ ap (λ n. n + 1) before.size;
      each = λ h below. subst (λ (frames : List Frame). (d : Frame) → P h (get_or frames h d)) (sym pushed) (each_more P old i frame before.size before.each is h below);
      none = none_more wide found.cell found.start found.sfn i c.in-Err.other before.none alone;
      first = λ some. first_more wide found.cell found.start found.sfn i c.loop-i.reason c.in-Err.other c.first_reason-reason.result before.first alone
          c.first_reason-reason.ensures.first c.first_reason-reason.ensures.later;
    }

pub returns-clause-read : goal.returns-clause-read
returns-clause-read c =
    let end = c.loop-i-test.false in
    let some = c.tried_frames-count.ensures.bounds.0 in
    record {
      none = λ i fields tried alone.
          let below = (c.tried_frames-count.ensures.tried i).1 tried in c.loop-i.invariant.none i fields (omega (arith, below, end)) alone;
      refused = c.loop-i.invariant.first (omega (arith, some, end));
    }

pub returns-clause-tried : goal.returns-clause-tried
returns-clause-tried c reason is =
    let end = c.loop-i-test.false in
    let inside = c.loop-i.auto.i-end in
    let size = c.loop-i.invariant.size in
    record {
      tried = λ i. (
        (λ below. (c.tried_frames-count.ensures.tried i).0 (omega (arith, below, size, inside))),
        (λ tried. let below = (c.tried_frames-count.ensures.tried i).1 tried in omega (arith, below, size, end)),
      );
      each = λ i below. c.loop-i.invariant.each i (omega (arith, below, size));
    }
