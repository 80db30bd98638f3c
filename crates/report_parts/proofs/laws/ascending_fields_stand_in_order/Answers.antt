use Rattle.report_parts.proofs.Order.{ascending_fields}
use Rattle.report_parts.proofs.laws.ascending_fields_stand_in_order.Goals as goal

pub returns : goal.returns
returns c = ascending_fields
