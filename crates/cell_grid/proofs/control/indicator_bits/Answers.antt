use Rattle.std.proofs.Common.{arith, ◌∙◌, length-set, false}
use Rattle.std.proofs.lemmas.List.FromFn.{fill_by_all}
use Rattle.std.proofs.lemmas.List.Edits.{fill_by_more}
use Rattle.grid_map.specs.Scrambling.{indicator_bit}
use Rattle.cell_grid.proofs.control.indicator_bits.Goals as goal

pub loop-i-preserved : goal.loop-i-preserved
loop-i-preserved c = record {
  whole = length-set c.loop-i.bits c.loop-i.i _ ∙ c.loop-i.invariant.whole;
  each = rw c.indicator_bit.ensures
      (fill_by_more (indicator_bit c.args.indicator) c.loop-i.bits c.loop-i.i false (omega (arith, c.loop-i.invariant.whole)) c.loop-i.invariant.each);
}

pub returns : goal.returns
returns c =
    fill_by_all (indicator_bit c.args.indicator) c.loop-i.bits 32 false c.loop-i.invariant.whole
    (λ k inside. c.loop-i.invariant.each k (omega (arith, inside, c.loop-i-test.false)))
