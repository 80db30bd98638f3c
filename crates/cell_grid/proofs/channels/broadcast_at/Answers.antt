use Rattle.std.proofs.Common.{arith, sym, ◌∙◌, ap, ℕ}
use Rattle.grid_map.specs.Place.{place}
use Rattle.cell_grid.specs.Block.{port_point}
use Rattle.cell_grid.specs.Grid.{broadcast_places}
use Rattle.cell_grid.specs.Rows.{value_in}
use Rattle.cell_grid.proofs.Bounds.{broadcast_full}
use Rattle.cell_grid.proofs.ChannelValues.{broadcast_is, broadcast_count, all_small}
use Rattle.cell_grid.proofs.channels.broadcast_at.Goals as goal

pub value_at-requires-clause-room : goal.value_at-requires-clause-room
value_at-requires-clause-room c =
    let signals = c.args.signals.now in
    let count = signals.layout_is.broadcast.count in
    let n = broadcast_count signals.port signals.cell.now.identity in
    omega (arith, count, n)

pub returns : goal.returns
returns c =
    let signals = c.args.signals.now in
    c.value_at.ensures (broadcast_places signals.port signals.cell.now.identity) signals.layout_is.broadcast
    ∙ ap (λ (n : ℕ). value_in signals.port (broadcast_places signals.port signals.cell.now.identity) signals.broadcast (place n c.args.here.k)) c.broadcast_symbol-symbol.ensures.value
    ∙ broadcast_is signals.cell.now signals.sfn c.args.subframe c.args.here.symbol c.args.here.k signals.port signals.broadcast signals.broadcast_is
    (sym c.may_broadcast.ensures ∙ c.if-not-may_broadcast.false)

pub value_at-requires-clause-small : goal.value_at-requires-clause-small
value_at-requires-clause-small c =
    let signals = c.args.signals.now in
    all_small signals.broadcast 240 (port_point signals.port signals.cell.now signals.sfn) signals.broadcast_is (broadcast_full signals.port signals.cell.now signals.sfn)
