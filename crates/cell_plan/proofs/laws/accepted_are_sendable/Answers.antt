use Rattle.cell_plan.proofs.Sendable.{accepted_is_sendable_by, sendable_with_one}
use Rattle.cell_plan.proofs.WholeBlocks.{whole_blocks_are_resolvable}
use Rattle.cell_plan.proofs.laws.accepted_are_sendable.Goals as goal

pub returns-clause-accepted : goal.returns-clause-accepted
returns-clause-accepted c = accepted_is_sendable_by

pub returns-clause-one : goal.returns-clause-one
returns-clause-one c = sendable_with_one

pub returns-clause-whole : goal.returns-clause-whole
returns-clause-whole c = whole_blocks_are_resolvable
