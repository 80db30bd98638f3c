use Rattle.std.proofs.Common.{arith}
use Rattle.frequency_offset.specs.Fine.{repeat_term, repeat_sum}
use Rattle.cs_num.proofs.SoFar.{none_so_far, one_more, has_room, all_so_far}
use Rattle.frequency_offset.proofs.fine.repeat_sum.Goals as goal

pub loop-i-init : goal.loop-i-init
loop-i-init c = none_so_far 2147483648 (repeat_term c.args.turned.now c.args.u)

pub add-sum-requires : goal.add-sum-requires
add-sum-requires c = has_room 2147483648 c.loop-i.i (repeat_term c.args.turned.now c.args.u) c.loop-i.sum c.repeat_term.result c.loop-i.invariant c.repeat_term.ensures.small (omega arith)

pub loop-i-preserved : goal.loop-i-preserved
loop-i-preserved c = one_more 2147483648 c.loop-i.i (repeat_term c.args.turned.now c.args.u) c.loop-i.sum c.repeat_term.result c.add-sum.result c.loop-i.invariant c.repeat_term.ensures.value c.repeat_term.ensures.small c.add-sum.ensures

pub returns-clause-value : goal.returns-clause-value
unfolding repeat_sum
returns-clause-value c = (all_so_far 2147483648 c.loop-i.i 9 (repeat_term c.args.turned.now c.args.u) c.loop-i.sum c.loop-i.invariant (omega arith)).0

pub returns-clause-small : goal.returns-clause-small
returns-clause-small c = (all_so_far 2147483648 c.loop-i.i 9 (repeat_term c.args.turned.now c.args.u) c.loop-i.sum c.loop-i.invariant (omega arith)).1
