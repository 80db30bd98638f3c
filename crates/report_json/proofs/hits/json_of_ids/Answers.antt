use Rattle.report_json.specs.Hits.{ids_json}
use Rattle.report_json.proofs.Floats.{in_id}
use Rattle.report_json.proofs.hits.json_of_ids.Goals as goal

pub returns : goal.returns
unfolding ids_json
returns c = c.list_text.ensures in_id
