use Rattle.serde_json.specs.View.{view}
use Rattle.report_json.proofs.Floats.{written}
use Rattle.report_json.specs.Offset.{estimation_value, estimation_json}
use Rattle.report_json.proofs.OffsetFloats.{in_estimation}
use Rattle.report_json.proofs.offset.json_of.Goals as goal

pub returns : goal.returns
unfolding estimation_json
returns c =
    written (view c.in_ok-estimation.estimation) (estimation_value c.args.estimate.now c.args.taken.now) c.to_string.result c.in_ok-estimation.ensures
    (in_estimation c.args.estimate.now c.args.taken.now) c.to_string.ensures.text
