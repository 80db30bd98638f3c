use Rattle.std.proofs.Common.{arith}
use Rattle.frequency_offset.specs.Fine.{symbol_sum, slot_sum}
use Rattle.cs_num.proofs.SoFar.{none_so_far, one_more, has_room, all_so_far}
use Rattle.frequency_offset.proofs.fine.slot_sum.Goals as goal

pub loop-symbol-init : goal.loop-symbol-init
loop-symbol-init c = none_so_far 19327352832 (symbol_sum c.args.turned.now c.args.start c.args.slot)

pub add-sum-requires : goal.add-sum-requires
add-sum-requires c = has_room 19327352832 c.loop-symbol.symbol (symbol_sum c.args.turned.now c.args.start c.args.slot) c.loop-symbol.sum c.symbol_sum.result c.loop-symbol.invariant c.symbol_sum.ensures.small (omega arith)

pub loop-symbol-preserved : goal.loop-symbol-preserved
loop-symbol-preserved c = one_more 19327352832 c.loop-symbol.symbol (symbol_sum c.args.turned.now c.args.start c.args.slot) c.loop-symbol.sum c.symbol_sum.result c.add-sum.result c.loop-symbol.invariant c.symbol_sum.ensures.value c.symbol_sum.ensures.small c.add-sum.ensures

pub returns-clause-value : goal.returns-clause-value
unfolding slot_sum
returns-clause-value c = (all_so_far 19327352832 c.loop-symbol.symbol 7 (symbol_sum c.args.turned.now c.args.start c.args.slot) c.loop-symbol.sum c.loop-symbol.invariant (omega arith)).0

pub returns-clause-small : goal.returns-clause-small
returns-clause-small c = (all_so_far 19327352832 c.loop-symbol.symbol 7 (symbol_sum c.args.turned.now c.args.start c.args.slot) c.loop-symbol.sum c.loop-symbol.invariant (omega arith)).1
