use Rattle.cell_json.proofs.Lists.{IsReadTo}
use Rattle.cell_json.specs.Kinds.{natural_within}
use Rattle.cell_json.proofs.information.sibs_in.Given as goal

abbrev pub invariant-loop-item : goal.invariant-loop-item
invariant-loop-item l = IsReadTo (natural_within 0 79) l.items l.item-index l.sibs
