use Rattle.sib1_reader.proofs.Once.{one_attempt, one_reading}
use Rattle.sib1_reader.proofs.Exists.{some_attempt, some_reading, read_is_valid}
use Rattle.sib1_reader.proofs.laws.one_answer.Goals as goal

pub returns-clause-attempt : goal.returns-clause-attempt
returns-clause-attempt c = one_attempt

pub returns-clause-answer : goal.returns-clause-answer
returns-clause-answer c = one_reading

pub returns-clause-some_attempt : goal.returns-clause-some_attempt
returns-clause-some_attempt c = some_attempt

pub returns-clause-some_answer : goal.returns-clause-some_answer
returns-clause-some_answer c = some_reading

pub returns-clause-valid : goal.returns-clause-valid
returns-clause-valid c = read_is_valid
