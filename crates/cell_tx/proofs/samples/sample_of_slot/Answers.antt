use Rattle.std.proofs.Common.{ap, ◌∙◌}
use Rattle.cs_num.specs.Complex.{sample_of}
use Rattle.cell_grid.specs.Ports.{port_prefix}
use Rattle.cell_tx.specs.Sending.{elements_of}
use Rattle.cell_tx.specs.Sent.{prefix_slot_sample}
use Rattle.cell_grid.proofs.Bounds.{sent_element-square}
use Rattle.cell_tx.proofs.Bounds.{slot-square, small-within}
use Rattle.cell_grid.proofs.Prefixes.{port_prefix_known}
use Rattle.cell_tx.proofs.Symbols.{slot_value}
use Rattle.cell_tx.proofs.samples.sample_of_slot.Goals as goal

pub exact_sample-requires : goal.exact_sample-requires
exact_sample-requires c =
    let signals = c.args.signals.now in
    let prefix = port_prefix signals.port in
    let grid = elements_of signals in
    let value = slot_value prefix grid signals.sfn c.args.slot c.args.i c.place_at.result c.args.useful.now (port_prefix_known signals.port) c.requires.i c.requires.useful c.place_at.ensures.value in
    rw value
    (small-within (prefix_slot_sample prefix grid signals.sfn c.args.slot c.args.i)
    (slot-square prefix grid (sent_element-square signals.load signals.port signals.cell.now) signals.sfn c.args.slot c.args.i))

pub returns : goal.returns
returns c =
    let signals = c.args.signals.now in
    c.exact_sample.ensures
    ∙ ap sample_of (slot_value (port_prefix signals.port) (elements_of signals) signals.sfn c.args.slot c.args.i c.place_at.result c.args.useful.now (port_prefix_known signals.port) c.requires.i c.requires.useful c.place_at.ensures.value)
