use Rattle.sub_block.specs.declared.Code.TheVariants.{Convolutional}
use Rattle.sub_block.specs.Items.{cells_read}
use Rattle.sub_block.proofs.Search.{IsLeft}
use Rattle.conv_code.proofs.matching.stream_index.Given as goal

abbrev pub invariant-loop-m : goal.invariant-loop-m
invariant-loop-m l = IsLeft l.nulls (cells_read Convolutional l.rows 0) l.p l.m l.left
