use Rattle.std.proofs.Common.{◌≡◌, ℕ, ◌<◌, length, slice_index_or}
use Rattle.sub_block.specs.declared.Code.TheVariants.{Convolutional}
use Rattle.sub_block.specs.Items.{cells_read}
use Rattle.conv_code.specs.Reading.{stream_order}
use Rattle.conv_code.proofs.Walk.{IsWalked}
use Rattle.conv_code.proofs.matching.stream_indices.Given as goal

abbrev pub invariant-loop-m : goal.invariant-loop-m
invariant-loop-m g l = record {
  whole : length l.order ≡ g.row.N;
  walked : IsWalked l.nulls g.row.N (cells_read Convolutional l.rows 0) l.p l.m;
  each : (k : ℕ) → k < l.p → slice_index_or l.order k 0 ≡ slice_index_or (stream_order g.row.N) k 0;
}
