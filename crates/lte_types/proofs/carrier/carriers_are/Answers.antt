use Rattle.lte_types.proofs.Carriers.{each_stands}
use Rattle.lte_types.proofs.carrier.carriers_are.Goals as goal

pub returns-clause-each : goal.returns-clause-each
returns-clause-each c = each_stands
