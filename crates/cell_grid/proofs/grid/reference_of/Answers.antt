use Rattle.std.proofs.Common.{◌∙◌, refl}
use Rattle.cell_grid.proofs.Elements.{pilot_is}
use Rattle.cell_grid.proofs.grid.reference_of.Goals as goal

pub returns : goal.returns
returns c identity slot symbol row is =
    c.value_or.ensures ∙ rw (c.lower_test.ensures, c.any_lower_test.ensures) refl ∙ pilot_is c.args.port c.args.pilots.now identity slot symbol c.args.k row is c.requires
