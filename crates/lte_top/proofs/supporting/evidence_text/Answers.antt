use Rattle.lte_top.proofs.Carriers.{of_carrier}
use Rattle.lte_top.proofs.supporting.evidence_text.Goals as goal

pub evidence_of_list-requires : goal.evidence_of_list-requires
evidence_of_list-requires c = (
  of_carrier c.args.carrier,
  (rw c.slice.ensures c.read_list_by.ensures.list.explained, rw (c.slice.ensures, c.readings.ensures) c.read_list_by.ensures.readings),
)
