use Rattle.std.proofs.Common.{append_assoc}
use Rattle.report_text.proofs.parts.block_part.Goals as goal

pub returns : goal.returns
returns c = simp append_assoc c.format.ensures.ok
