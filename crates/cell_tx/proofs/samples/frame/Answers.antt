use Rattle.std.proofs.Common.{◌∙◌}
use Rattle.lte_types.specs.Numerology.{normal}
use Rattle.cell_grid.specs.Grid.{element}
use Rattle.cell_tx.proofs.Frames.{first_frame}
use Rattle.cell_tx.proofs.samples.frame.Goals as goal

pub returns : goal.returns
returns c = c.sequence.ensures ∙ rw c.requires (first_frame normal (element c.args.cell.now) c.args.sfn c.value-number.ensures.valid)
