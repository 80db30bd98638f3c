use Rattle.std.proofs.Common.{arith, ◌∙◌, sym}
use Rattle.cell_grid.specs.Shared.{assigned_places, shared_point}
use Rattle.cell_grid.proofs.Bounds.{shared_full}
use Rattle.cell_grid.proofs.ChannelValues.{shared_is, all_small}
use Rattle.cell_grid.proofs.channels.shared_at.Goals as goal

pub returns : goal.returns
returns c =
    let signals = c.args.signals.now in
    let count = signals.layout_is.shared.count in
    let few = signals.layout_is.shared_count in
    c.value_at.ensures (assigned_places (signals.port.carrier) signals.cell.now) signals.layout_is.shared
    ∙ shared_is signals.port signals.cell.now signals.sfn c.args.subframe c.args.here.symbol c.args.here.k signals.carried.now.shared (signals.carried_is c.requires.control).shared (omega (arith, count, few))
    (sym c.has_system_information.ensures ∙ c.if-not-has_system_information.false)

pub value_at-requires-clause-small : goal.value_at-requires-clause-small
value_at-requires-clause-small c =
    let signals = c.args.signals.now in
    all_small signals.carried.now.shared 612 (shared_point signals.cell.now signals.sfn) (signals.carried_is c.requires.control).shared (shared_full signals.cell.now signals.sfn)
