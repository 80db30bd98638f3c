use Rattle.std.proofs.Common.{◌≡◌, ◌-◌, ◌+◌, ◌++◌, ◌∷◌, [], length, ap, ◌∙◌, arith}
use Rattle.std.proofs.lemmas.List.{length-append}
use Rattle.uper.specs.Reading.{reading}
use Rattle.uper.specs.Grammar.{times}
use Rattle.sib1.specs.Layout.{sib_type}
use Rattle.uper.proofs.Steps.{exit, with_front, no_front, loop_more, loop_err, loop_done, pushed}
use Rattle.sib1.proofs.read_schedule.read_sib_types.Goals as goal

pub returns-in_err-code : goal.returns-in_err-code
returns-in_err-code c =
    exit _ _ _ _ c.in_err-code.field-0.0 c.from_residual.ensures.1 (loop_err sib_type c.loop.list c.args.count c.loop.counter _ _ (reading (times c.args.count sib_type) c.args.reader.now) c.loop-test.true c.in_err-code.ensures c.loop.invariant.so_far)

pub loop-init : goal.loop-init
loop-init c = record {
  so_far =
      ap (λ front. with_front front (reading (times (c.args.count - 0) sib_type) c.args.reader.now)) c.new-list.ensures
      ∙ no_front (reading (times (c.args.count - 0) sib_type) c.args.reader.now)
      ∙ ap (λ n. reading (times n sib_type) c.args.reader.now) (let e : c.args.count - 0 ≡ c.args.count = omega arith in e);
  size = ap length c.new-list.ensures;
}

pub loop-preserved : goal.loop-preserved
loop-preserved c =
    let below = c.loop-test.true in
    let few = c.requires in
    let size = c.loop.invariant.size in
    let is : c.push.new.self ≡ c.loop.list ++ c.in_ok-code.code ∷ [] = pushed c.loop.list c.push.new.self c.in_ok-code.code c.push.result 31 c.push.ensures.room (omega (arith, below, few, size)) c.push.ensures.items in
    let longer = ap length is ∙ length-append c.loop.list (c.in_ok-code.code ∷ []) in
    record {
      so_far =
          ap (λ front. with_front front (reading (times (c.args.count - (c.loop.counter + 1)) sib_type) c.read_sib_type.new.reader)) is
          ∙ loop_more sib_type c.loop.list c.args.count c.loop.counter _ _ c.in_ok-code.code (reading (times c.args.count sib_type) c.args.reader.now) below c.in_ok-code.ensures c.loop.invariant.so_far;
      size = omega (arith, longer, size);
    }

pub returns : goal.returns
returns c = loop_done sib_type c.loop.list c.args.count c.loop.counter c.loop.reader (reading (times c.args.count sib_type) c.args.reader.now) c.loop-test.false c.loop.invariant.so_far
