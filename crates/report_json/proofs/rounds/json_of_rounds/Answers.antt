use Rattle.serde_json.specs.View.{view}
use Rattle.report_json.proofs.Floats.{written}
use Rattle.report_json.specs.Rounds.{rounds_value, rounds_json}
use Rattle.report_json.proofs.RoundsFloats.{in_rounds}
use Rattle.report_json.proofs.rounds.json_of_rounds.Goals as goal

pub returns : goal.returns
unfolding rounds_json
returns c = written (view c.in_ok-all.all) (rounds_value c.args.rounds.now) c.to_string.result c.in_ok-all.ensures (in_rounds c.args.rounds.now) c.to_string.ensures.text
