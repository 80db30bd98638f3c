use Rattle.tailbite.proofs.Only.{one_word, some_word}
use Rattle.tailbite.proofs.laws.one_least_word.Goals as goal

pub returns-clause-one : goal.returns-clause-one
returns-clause-one c = one_word

pub returns-clause-some : goal.returns-clause-some
returns-clause-some c = some_word
