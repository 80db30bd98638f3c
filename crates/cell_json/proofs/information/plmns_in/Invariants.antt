use Rattle.cell_json.proofs.Lists.{IsReadTo}
use Rattle.cell_json.specs.Information.{network_of}
use Rattle.cell_json.proofs.information.plmns_in.Given as goal

abbrev pub invariant-loop-item : goal.invariant-loop-item
invariant-loop-item l = IsReadTo network_of l.items l.item-index l.plmns
