use Rattle.cell_tx.proofs.Received.{received_clean, received-small, received-fits, emitted_clean, received_by-small}
use Rattle.cell_tx.proofs.laws.sum_is_clean.Goals as goal

pub returns-clause-errors : goal.returns-clause-errors
returns-clause-errors c = received_clean

pub returns-clause-small : goal.returns-clause-small
returns-clause-small c = received-small

pub returns-clause-fits : goal.returns-clause-fits
returns-clause-fits c = received-fits

pub returns-clause-emitted : goal.returns-clause-emitted
returns-clause-emitted c = emitted_clean

pub returns-clause-emitted_small : goal.returns-clause-emitted_small
returns-clause-emitted_small c = received_by-small
