use Rattle.serde_json.specs.View.{view}
use Rattle.report_json.specs.All.{all_value, all_json}
use Rattle.report_json.proofs.Floats.{written, in_all}
use Rattle.report_json.proofs.all.json_of_all.Goals as goal

pub returns : goal.returns
unfolding all_json
returns c of are = written (view c.in_ok-all.all) (all_value of) c.to_string.result (c.in_ok-all.ensures of are) (in_all of) c.to_string.ensures.text
