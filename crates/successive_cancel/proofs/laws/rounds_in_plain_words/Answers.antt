use Rattle.successive_cancel.proofs.Plain.{rounds_are_in_plain_words}
use Rattle.successive_cancel.proofs.laws.rounds_in_plain_words.Goals as goal

pub returns : goal.returns
returns c = rounds_are_in_plain_words
