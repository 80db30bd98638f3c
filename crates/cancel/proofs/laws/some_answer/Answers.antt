use Rattle.cancel.proofs.Exists.{some_subtraction}
use Rattle.cancel.proofs.laws.some_answer.Goals as goal

pub returns : goal.returns
returns c = some_subtraction
