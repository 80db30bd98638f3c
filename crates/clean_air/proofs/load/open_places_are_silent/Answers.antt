use Rattle.clean_air.proofs.Carrying.{sent_elements_carry, open_is_silent}
use Rattle.clean_air.proofs.Taken.{taken_places_are_sent}
use Rattle.clean_air.proofs.load.open_places_are_silent.Goals as goal

pub returns-clause-carry : goal.returns-clause-carry
returns-clause-carry c = sent_elements_carry

pub returns-clause-silent : goal.returns-clause-silent
returns-clause-silent c = open_is_silent

pub returns-clause-sent : goal.returns-clause-sent
returns-clause-sent c = taken_places_are_sent
