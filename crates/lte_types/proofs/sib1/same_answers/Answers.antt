use Rattle.lte_types.proofs.Same.{answers_decide}
use Rattle.lte_types.proofs.sib1.same_answers.Goals as goal

pub returns : goal.returns
returns c = rw c.eq.ensures (answers_decide c.args.answer.now c.args.other.now)
