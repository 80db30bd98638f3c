use Rattle.wide_block.proofs.Once.{one_answer, some_answer, one_saying, some_saying, read_is_valid}
use Rattle.wide_block.proofs.laws.one_answer.Goals as goal

pub returns-clause-answer : goal.returns-clause-answer
returns-clause-answer c = one_answer

pub returns-clause-some_answer : goal.returns-clause-some_answer
returns-clause-some_answer c = some_answer

pub returns-clause-saying : goal.returns-clause-saying
returns-clause-saying c = one_saying

pub returns-clause-some_saying : goal.returns-clause-some_saying
returns-clause-some_saying c = some_saying

pub returns-clause-valid : goal.returns-clause-valid
returns-clause-valid c = read_is_valid
