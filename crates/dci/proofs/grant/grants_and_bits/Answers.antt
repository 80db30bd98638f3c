use Rattle.dci.proofs.Words.{carried_is_grant, sent_carries, only_word}
use Rattle.dci.proofs.Exists.{some_answer}
use Rattle.dci.proofs.Once.{one_answer}
use Rattle.dci.proofs.grant.grants_and_bits.Goals as goal

pub returns-clause-grant : goal.returns-clause-grant
returns-clause-grant c = carried_is_grant

pub returns-clause-sent : goal.returns-clause-sent
returns-clause-sent c = sent_carries

pub returns-clause-one_word : goal.returns-clause-one_word
returns-clause-one_word c = only_word

pub returns-clause-some_answer : goal.returns-clause-some_answer
returns-clause-some_answer c = some_answer

pub returns-clause-one_answer : goal.returns-clause-one_answer
returns-clause-one_answer c = one_answer
