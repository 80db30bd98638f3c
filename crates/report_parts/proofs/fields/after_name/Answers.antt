use Rattle.std.proofs.Common.{append_assoc}
use Rattle.report_parts.proofs.fields.after_name.Goals as goal

pub returns : goal.returns
returns c = simp append_assoc c.format.ensures.ok
