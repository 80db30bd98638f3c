use Rattle.std.proofs.Common.{append_assoc}
use Rattle.report_text.proofs.hits.line_of_root.Goals as goal

pub returns : goal.returns
returns c = simp append_assoc c.format.ensures.ok
