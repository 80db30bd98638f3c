use Rattle.std.proofs.Common.{sym, ap, ◌∙◌}
use Rattle.grid_map.specs.Group.{group}
use Rattle.grid_map.proofs.Regions.{left_at}
use Rattle.grid_map.proofs.control.left_group.Goals as goal

pub returns : goal.returns
returns c =
    ap (group c.args.symbol) c.left_begins.ensures.value ∙ sym (left_at c.args.id c.args.symbol c.args.number c.requires.symbol c.requires.number)
