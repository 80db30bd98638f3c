use Rattle.cell_json.proofs.Lists.{IsReadTo}
use Rattle.cell_json.specs.Information.{message_of}
use Rattle.cell_json.proofs.information.schedule_in.Given as goal

abbrev pub invariant-loop-item : goal.invariant-loop-item
invariant-loop-item l = IsReadTo message_of l.items l.item-index l.schedule
