use Rattle.std.proofs.Common.{arith, ◌∙◌, length-set}
use Rattle.std.proofs.lemmas.List.FromFn.{fill_by_all}
use Rattle.std.proofs.lemmas.List.Edits.{fill_by_more}
use Rattle.cs_num.specs.Complex.{nothing}
use Rattle.cell_grid.specs.Load.{sent_element}
use Rattle.cell_grid.proofs.grid.grid_of.Goals as goal

pub loop-k-preserved : goal.loop-k-preserved
loop-k-preserved c = record {
  whole = length-set c.loop-k.grid c.loop-k.k _ ∙ c.loop-k.invariant.whole;
  each = rw c.element_of.ensures
      (fill_by_more (sent_element c.args.signals.now.load c.args.signals.now.port c.args.signals.now.cell.now c.args.signals.now.sfn c.args.subframe c.args.symbol) c.loop-k.grid c.loop-k.k nothing
      (omega (arith, c.loop-k.invariant.whole)) c.loop-k.invariant.each);
}

pub returns : goal.returns
returns c =
    fill_by_all (sent_element c.args.signals.now.load c.args.signals.now.port c.args.signals.now.cell.now c.args.signals.now.sfn c.args.subframe c.args.symbol) c.loop-k.grid 72 nothing c.loop-k.invariant.whole
    (λ k inside. c.loop-k.invariant.each k (omega (arith, inside, c.loop-k-test.false)))
