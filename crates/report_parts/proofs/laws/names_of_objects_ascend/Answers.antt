use Rattle.report_parts.proofs.Ascending.{names_ascend}
use Rattle.report_parts.proofs.laws.names_of_objects_ascend.Goals as goal

pub returns : goal.returns
returns c = names_ascend
