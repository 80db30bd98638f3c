use Rattle.wide_grant.proofs.Units.{unit_bounds}
use Rattle.wide_grant.proofs.distributed.unit.Goals as goal

pub returns-else-second-clause-bounds : goal.returns-else-second-clause-bounds
returns-else-second-clause-bounds c =
    let bounds = unit_bounds c.args.blocks c.requires.blocks in
    rw (c.virtual_blocks.ensures.value, c.if-second.false) bounds
