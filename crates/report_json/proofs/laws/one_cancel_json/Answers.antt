use Rattle.report_json.proofs.OneText.{one_cancel_json}
use Rattle.report_json.proofs.laws.one_cancel_json.Goals as goal

pub returns : goal.returns
returns c = one_cancel_json
