use Rattle.wide_grant.proofs.Matrix.{matrix_order, inside_cell}
use Rattle.wide_grant.proofs.laws.blocks_are_distributed.Goals as goal

pub returns-clause-matrix : goal.returns-clause-matrix
returns-clause-matrix c = matrix_order

pub returns-clause-inside : goal.returns-clause-inside
returns-clause-inside c = inside_cell
