use Rattle.report_json.specs.Evidence.{evidence_json}
use Rattle.report_json.proofs.Floats.{in_support}
use Rattle.report_json.proofs.supports.json_of_evidence.Goals as goal

pub returns : goal.returns
unfolding evidence_json
returns c = c.list_text.ensures in_support
