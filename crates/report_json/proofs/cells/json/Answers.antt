use Rattle.report_json.specs.Cells.{json_text}
use Rattle.report_json.proofs.Floats.{in_entry}
use Rattle.report_json.proofs.cells.json.Goals as goal

pub returns : goal.returns
unfolding json_text
returns c = c.list_text.ensures in_entry
