use Rattle.std.proofs.Common.{◌≡◌, ◌-◌, ◌+◌, ◌++◌, ◌∷◌, [], length, ap, ◌∙◌, arith}
use Rattle.std.proofs.lemmas.List.{length-append}
use Rattle.uper.specs.Reading.{reading}
use Rattle.uper.specs.Grammar.{times}
use Rattle.sib1.specs.Layout.{scheduling_info}
use Rattle.uper.proofs.Steps.{exit, with_front, no_front, loop_more, loop_err, loop_done, pushed}
use Rattle.sib1.proofs.read_schedule.read_scheduling_infos.Goals as goal

pub returns-in_err-item : goal.returns-in_err-item
returns-in_err-item c =
    exit _ _ _ _ c.in_err-item.field-0.0 c.from_residual.ensures.1 (loop_err scheduling_info c.loop.list c.args.count c.loop.counter _ _ (reading (times c.args.count scheduling_info) c.args.reader.now) c.loop-test.true c.in_err-item.ensures c.loop.invariant.so_far)

pub loop-init : goal.loop-init
loop-init c = record {
  so_far =
      ap (λ front. with_front front (reading (times (c.args.count - 0) scheduling_info) c.args.reader.now)) c.new-list.ensures
      ∙ no_front (reading (times (c.args.count - 0) scheduling_info) c.args.reader.now)
      ∙ ap (λ n. reading (times n scheduling_info) c.args.reader.now) (let e : c.args.count - 0 ≡ c.args.count = omega arith in e);
  size = ap length c.new-list.ensures;
}

pub loop-preserved : goal.loop-preserved
loop-preserved c =
    let below = c.loop-test.true in
    let few = c.requires in
    let size = c.loop.invariant.size in
    let is : c.push.new.self ≡ c.loop.list ++ c.in_ok-item.item ∷ [] = pushed c.loop.list c.push.new.self c.in_ok-item.item c.push.result 32 c.push.ensures.room (omega (arith, below, few, size)) c.push.ensures.items in
    let longer = ap length is ∙ length-append c.loop.list (c.in_ok-item.item ∷ []) in
    record {
      so_far =
          ap (λ front. with_front front (reading (times (c.args.count - (c.loop.counter + 1)) scheduling_info) c.read_scheduling_info.new.reader)) is
          ∙ loop_more scheduling_info c.loop.list c.args.count c.loop.counter _ _ c.in_ok-item.item (reading (times c.args.count scheduling_info) c.args.reader.now) below c.in_ok-item.ensures c.loop.invariant.so_far;
      size = omega (arith, longer, size);
    }

pub returns : goal.returns
returns c = loop_done scheduling_info c.loop.list c.args.count c.loop.counter c.loop.reader (reading (times c.args.count scheduling_info) c.args.reader.now) c.loop-test.false c.loop.invariant.so_far
