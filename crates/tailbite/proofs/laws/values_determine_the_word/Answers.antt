use Rattle.tailbite.proofs.Only.{only_least}
use Rattle.tailbite.proofs.laws.values_determine_the_word.Goals as goal

pub returns : goal.returns
returns c = only_least
