use Rattle.report_text.proofs.Pieces.{lines_stand}
use Rattle.report_text.proofs.laws.listed_lines_stand.Goals as goal

pub returns : goal.returns
returns c = lines_stand
