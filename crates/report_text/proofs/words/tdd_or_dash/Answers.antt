use Rattle.std.proofs.Common.{append_assoc}
use Rattle.report_text.proofs.words.tdd_or_dash.Goals as goal

pub returns-in-Some : goal.returns-in-Some
returns-in-Some c = rw c.in-Some.is (simp append_assoc c.format.ensures.ok)
