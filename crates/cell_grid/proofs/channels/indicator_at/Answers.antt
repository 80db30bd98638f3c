use Rattle.std.proofs.Common.{arith, ◌∙◌}
use Rattle.grid_map.specs.Control.{pcfich_places}
use Rattle.grid_map.proofs.Pieces.{length-pcfich_places}
use Rattle.cell_grid.specs.Control.{indicator_point}
use Rattle.cell_grid.proofs.Bounds.{indicator_full}
use Rattle.cell_grid.proofs.ChannelValues.{indicator_is, all_small}
use Rattle.cell_grid.proofs.channels.indicator_at.Goals as goal

pub value_at-requires-clause-room : goal.value_at-requires-clause-room
value_at-requires-clause-room c =
    let count = c.args.signals.now.layout_is.indicator.count in
    let n = length-pcfich_places c.args.signals.now.cell.now.identity in
    let all = c.indicator_of-points.ensures.count in
    omega (arith, count, n, all)

pub returns : goal.returns
returns c =
    let signals = c.args.signals.now in
    c.value_at.ensures (pcfich_places signals.cell.now.identity) signals.layout_is.indicator
    ∙ indicator_is signals.port signals.cell.now signals.sfn c.args.subframe c.args.here.symbol c.args.here.k c.indicator_of-points.result.now (c.indicator_of-points.ensures.points signals.port signals.cell.now signals.layout_is)

pub value_at-requires-clause-small : goal.value_at-requires-clause-small
value_at-requires-clause-small c =
    let signals = c.args.signals.now in
    all_small c.indicator_of-points.result.now 16 (indicator_point signals.cell.now c.args.subframe) (c.indicator_of-points.ensures.points signals.port signals.cell.now signals.layout_is) (indicator_full signals.cell.now c.args.subframe)
