use Rattle.lte_top.proofs.Carriers.{of_carrier}
use Rattle.lte_top.proofs.supporting.supported_narrow.Goals as goal

pub support_of_list-requires : goal.support_of_list-requires
support_of_list-requires c = (
  of_carrier c.args.carrier,
  (rw c.slice.ensures c.read_list_by.ensures.list.explained, rw (c.slice.ensures, c.readings.ensures) c.read_list_by.ensures.readings),
)
