use Rattle.budget.proofs.Peaks.{primary_stands_by_rule}
use Rattle.clean_air.proofs.HeldCells.{shown_identity_is_best, through_cell_is_heard, faithful_cell_is_heard, fading_cell_is_heard, echoed_cell_is_heard}
use Rattle.clean_air.proofs.heard.cells_are_heard.Goals as goal

pub returns-clause-primary : goal.returns-clause-primary
returns-clause-primary c = primary_stands_by_rule

pub returns-clause-identity : goal.returns-clause-identity
returns-clause-identity c = shown_identity_is_best

pub returns-clause-through : goal.returns-clause-through
returns-clause-through c = through_cell_is_heard

pub returns-clause-faithful : goal.returns-clause-faithful
returns-clause-faithful c = faithful_cell_is_heard

pub returns-clause-fading : goal.returns-clause-fading
returns-clause-fading c = fading_cell_is_heard

pub returns-clause-echoes : goal.returns-clause-echoes
returns-clause-echoes c = echoed_cell_is_heard
