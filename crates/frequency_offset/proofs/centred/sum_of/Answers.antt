use Rattle.std.proofs.Common.{arith, length}
use Rattle.cs_num.specs.Complex.{sample_at}
use Rattle.cs_num.proofs.SoFar.{none_so_far, one_more, has_room, all_so_far}
use Rattle.frequency_offset.proofs.centred.sum_of.Goals as goal

pub loop-i-init : goal.loop-i-init
loop-i-init c = none_so_far 32768 (sample_at c.args.samples.now)

pub add-sum-requires : goal.add-sum-requires
add-sum-requires c = has_room 32768 c.loop-i.i (sample_at c.args.samples.now) c.loop-i.sum c.from.result c.loop-i.invariant c.from.ensures.1 (omega arith)

pub loop-i-preserved : goal.loop-i-preserved
loop-i-preserved c = one_more 32768 c.loop-i.i (sample_at c.args.samples.now) c.loop-i.sum c.from.result c.add-sum.result c.loop-i.invariant c.from.ensures.0 c.from.ensures.1 c.add-sum.ensures

pub returns-clause-value : goal.returns-clause-value
returns-clause-value c = (all_so_far 32768 c.loop-i.i (length c.args.samples.now) (sample_at c.args.samples.now) c.loop-i.sum c.loop-i.invariant (omega arith)).0

pub returns-clause-small : goal.returns-clause-small
returns-clause-small c = (all_so_far 32768 c.loop-i.i (length c.args.samples.now) (sample_at c.args.samples.now) c.loop-i.sum c.loop-i.invariant (omega arith)).1
