use Rattle.std.proofs.Common.{◌≡◌, true, false}
use Rattle.explain.proofs.cells.place_in.Goals as goal

pub unreachable-requires : goal.unreachable-requires
unreachable-requires c =
    let there : false ≡ true = c.in-None.ensures.valid.1 c.requires in
    absurd cc
