use Rattle.std.proofs.Common.{◌∙◌}
use Rattle.crs.proofs.Values.{reference_list-of_port_0}
use Rattle.crs.proofs.pilots.Goals as goal

pub returns-clause-pilots : goal.returns-clause-pilots
returns-clause-pilots c = c.pattern_pilots.ensures.pilots ∙ reference_list-of_port_0 c.args.id c.args.slot c.args.symbol
