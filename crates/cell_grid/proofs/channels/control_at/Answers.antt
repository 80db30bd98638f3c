use Rattle.std.proofs.Common.{◌∙◌, sym}
use Rattle.cell_grid.specs.Control.{control_places, control_point}
use Rattle.cell_grid.proofs.Bounds.{control_full}
use Rattle.cell_grid.proofs.ChannelValues.{control_is, all_small}
use Rattle.cell_grid.proofs.channels.control_at.Goals as goal

pub returns : goal.returns
returns c =
    let signals = c.args.signals.now in
    c.value_at.ensures (control_places signals.cell.now) signals.layout_is.control
    ∙ control_is signals.port signals.cell.now signals.sfn c.args.subframe c.args.here.symbol c.args.here.k signals.carried.now.control (signals.carried_is c.requires.control).control (sym signals.layout_is.control.count ∙ signals.layout_is.control_count)
    (sym c.has_system_information.ensures ∙ c.if-not-has_system_information.false)

pub value_at-requires-clause-small : goal.value_at-requires-clause-small
value_at-requires-clause-small c =
    let signals = c.args.signals.now in
    all_small signals.carried.now.control 144 (control_point signals.cell.now signals.sfn) (signals.carried_is c.requires.control).control (control_full signals.cell.now signals.sfn)
