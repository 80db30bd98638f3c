use Rattle.std.proofs.Common.{refl}
use Rattle.sub_block.specs.declared.Code.TheVariants.{Convolutional, Turbo}
use Rattle.sub_block.specs.Matrix.{turbo_columns, columns}
use Rattle.sub_block.proofs.Cells.{column_shifted, column_below}
use Rattle.sub_block.proofs.matrix.column_at.Goals as goal

pub returns-in-Convolutional-clause-column : goal.returns-in-Convolutional-clause-column
unfolding turbo_columns
returns-in-Convolutional-clause-column c = rw c.in-Convolutional.is (column_shifted c.args.c c.requires)

pub returns-in-Convolutional-clause-inside : goal.returns-in-Convolutional-clause-inside
unfolding turbo_columns
returns-in-Convolutional-clause-inside c = rw (column_shifted c.args.c c.requires) (column_below Convolutional c.args.c c.requires)

pub returns-in-Turbo-clause-column : goal.returns-in-Turbo-clause-column
unfolding columns turbo_columns
returns-in-Turbo-clause-column c = rw c.in-Turbo.is refl

pub returns-in-Turbo-clause-inside : goal.returns-in-Turbo-clause-inside
unfolding columns turbo_columns
returns-in-Turbo-clause-inside c = column_below Turbo c.args.c c.requires
