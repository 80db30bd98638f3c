use Rattle.std.proofs.Common.{◌≡◌, ℕ, ◌+◌, ◌<◌, length}
use Rattle.cs_num.specs.Complex.{value_at}
use Rattle.grid_map.specs.Scrambling.{pbch_c_init}
use Rattle.cell_grid.specs.Points.{point_of}
use Rattle.cell_grid.specs.Block.{scrambled_bit}
use Rattle.cell_grid.proofs.block.fill_broadcast.Given as goal

abbrev pub invariant-loop-i : goal.invariant-loop-i
invariant-loop-i l = record {
  whole : length l.points ≡ length l.fn.points;
  each : (k : ℕ) → k < l.i → value_at l.points k ≡ point_of (λ i. scrambled_bit (pbch_c_init l.fn.id) l.word (l.first + i)) k;
}
