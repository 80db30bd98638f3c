use Rattle.std.proofs.Common.{false, arith, ◌∙◌}
use Rattle.finite.proofs.Lists.{values_below_is}
use Rattle.cell_grid.specs.Rows.{load_bits}
use Rattle.cell_grid.proofs.LoadBits.{bit_at, one_more}
use Rattle.cell_grid.proofs.load.bits_with.Goals as goal

pub loop-subframe-preserved : goal.loop-subframe-preserved
loop-subframe-preserved c = record {
  whole = c.put_subframe.ensures.count ∙ c.loop-subframe.invariant.whole;
  each = one_more c.args.load c.args.port c.args.sfn c.loop-subframe.subframe c.c_init-c_init.result c.loop-subframe.bits c.put_subframe.new.bits
      c.c_init-c_init.ensures.value (omega (arith, c.loop-subframe.invariant.whole, c.loop-subframe-test.true)) c.put_subframe.ensures.bits c.loop-subframe.invariant.each;
}

pub returns : goal.returns
unfolding load_bits
returns c =
    values_below_is false 20160 (bit_at c.args.load c.args.port c.args.sfn) c.loop-subframe.bits c.loop-subframe.invariant.whole
    (λ k inside. c.loop-subframe.invariant.each k (omega (arith, inside, c.loop-subframe-test.false)))
