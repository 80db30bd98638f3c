use Rattle.cell_grid.proofs.Bounds.{sent_element-within, sent_element-square}
use Rattle.cell_tx.proofs.Bounds.{small-sent-square, sent_by-square}
use Rattle.cell_tx.proofs.laws.sizes.Goals as goal

pub returns-clause-within : goal.returns-clause-within
returns-clause-within c = sent_element-within

pub returns-clause-elements : goal.returns-clause-elements
returns-clause-elements c = sent_element-square

pub returns-clause-any : goal.returns-clause-any
returns-clause-any c = small-sent-square

pub returns-clause-samples : goal.returns-clause-samples
returns-clause-samples c = sent_by-square
