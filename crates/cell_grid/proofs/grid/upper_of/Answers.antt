use Rattle.std.proofs.Common.{◌∙◌, refl}
use Rattle.cell_grid.proofs.Elements.{upper_is}
use Rattle.cell_grid.proofs.grid.upper_of.Goals as goal

pub returns : goal.returns
returns c identity slot first is =
    c.value_or.ensures ∙ rw (c.upper_test.ensures, c.any_upper_test.ensures) refl ∙ upper_is c.args.port c.args.first c.args.pilots.now identity slot c.args.k first is c.requires.k
