use Rattle.dci.proofs.SizeRows.{size_fits}
use Rattle.sib1_reader.proofs.block.row_for.Goals as goal

pub unreachable-requires : goal.unreachable-requires
unreachable-requires c =
    let grant = c.args.grant.now in
    c.in-None.ensures (size_fits grant.mcs grant.column grant.size c.requires.size_is)
