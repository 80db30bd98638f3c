use Rattle.std.proofs.Common.{◌*◌, ◌∙◌, arith, ap}
use Rattle.cs_num.proofs.Complex.{within_more}
use Rattle.frequency_offset.specs.Fine.{half_start, slot_sum, prefix_sum}
use Rattle.cs_num.proofs.SoFar.{none_so_far, one_more, has_room, all_so_far}
use Rattle.frequency_offset.proofs.fine.prefix_sum.Goals as goal

pub loop-slot-init : goal.loop-slot-init
loop-slot-init c = none_so_far 135291469824 (slot_sum c.args.turned.now (half_start c.args.t))

pub add-sum-requires : goal.add-sum-requires
add-sum-requires c =
    has_room 135291469824 c.loop-slot.slot (slot_sum c.args.turned.now (half_start c.args.t)) c.loop-slot.sum c.slot_sum.result c.loop-slot.invariant c.slot_sum.ensures.small (omega arith)

pub loop-slot-preserved : goal.loop-slot-preserved
loop-slot-preserved c =
    one_more 135291469824 c.loop-slot.slot (slot_sum c.args.turned.now (half_start c.args.t)) c.loop-slot.sum c.slot_sum.result c.add-sum.result c.loop-slot.invariant
    (c.slot_sum.ensures.value ∙ ap (λ start. slot_sum c.args.turned.now start c.loop-slot.slot) c.half_start-start.ensures.value)
    c.slot_sum.ensures.small c.add-sum.ensures

pub returns-clause-value : goal.returns-clause-value
unfolding prefix_sum
returns-clause-value c =
    (all_so_far 135291469824 c.loop-slot.slot 160 (slot_sum c.args.turned.now (half_start c.args.t)) c.loop-slot.sum c.loop-slot.invariant (omega arith)).0

pub returns-clause-small : goal.returns-clause-small
returns-clause-small c =
    within_more c.loop-slot.sum (160 * 135291469824) 70368744177664
    (all_so_far 135291469824 c.loop-slot.slot 160 (slot_sum c.args.turned.now (half_start c.args.t)) c.loop-slot.sum c.loop-slot.invariant (omega arith)).1
    (omega arith)
