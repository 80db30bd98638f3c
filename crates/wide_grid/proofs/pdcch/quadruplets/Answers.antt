use Rattle.finite.proofs.Lists.{values_below_more}
use Rattle.grid_map.specs.Control.{quadruplet_at}
use Rattle.wide_grid.proofs.pdcch.quadruplets.Goals as goal

pub loop-r-preserved : goal.loop-r-preserved
unfolding quadruplet_at
loop-r-preserved c =
    let more = values_below_more c.loop-r.r (quadruplet_at c.args.cell.now.identity c.args.count) in
    let pushed = c.in_ok-push.ensures.items in
    let before = c.loop-r.invariant in
    let here = c.stream_index.ensures.index in
    let id = c.id.ensures.value in
    let value = c.value.ensures.value in
    cc
