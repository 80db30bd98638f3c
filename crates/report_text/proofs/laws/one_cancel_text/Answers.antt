use Rattle.report_text.proofs.OneText.{one_cancel_text}
use Rattle.report_text.proofs.laws.one_cancel_text.Goals as goal

pub returns : goal.returns
returns c = one_cancel_text
