use Rattle.std.proofs.Common.{ap, sym, ◌∙◌}
use Rattle.cs_num.specs.Complex.{sample_of}
use Rattle.cell_grid.specs.Ports.{port_prefix}
use Rattle.cell_tx.specs.Sending.{elements_of}
use Rattle.cell_tx.proofs.Symbols.{frame_sample_is}
use Rattle.cell_tx.proofs.samples.sample_of_frame.Goals as goal

pub returns : goal.returns
returns c =
    let signals = c.args.signals.now in
    c.sample_of_slot.ensures ∙ ap sample_of (sym (frame_sample_is (port_prefix signals.port) (elements_of signals) signals.sfn c.args.i))
