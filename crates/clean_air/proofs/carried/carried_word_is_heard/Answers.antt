use Rattle.clean_air.proofs.Speaking.{sent_word_is_only, values_of_places_are_heard, descrambled_bits_are_heard, carried_bits_are_heard}
use Rattle.clean_air.proofs.carried.carried_word_is_heard.Goals as goal

pub returns-clause-only : goal.returns-clause-only
returns-clause-only c = sent_word_is_only

pub returns-clause-places : goal.returns-clause-places
returns-clause-places c = values_of_places_are_heard

pub returns-clause-descrambled : goal.returns-clause-descrambled
returns-clause-descrambled c = descrambled_bits_are_heard

pub returns-clause-carried : goal.returns-clause-carried
returns-clause-carried c = carried_bits_are_heard
