use Rattle.dci.proofs.Blocks.{blocks_with}
use Rattle.dci.proofs.assignment.assignments_used_once.Goals as goal

pub returns-clause-used : goal.returns-clause-used
returns-clause-used c = blocks_with
