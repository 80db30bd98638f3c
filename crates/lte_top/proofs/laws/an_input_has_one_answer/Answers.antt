use Rattle.lte_top.proofs.Complete.{one_answer}
use Rattle.lte_top.proofs.laws.an_input_has_one_answer.Goals as goal

pub returns : goal.returns
returns c = one_answer
