use Rattle.std.proofs.Common.{◌≡◌, ℕ, ◌<◌, length, get_or, false}
use Rattle.cs_num.specs.Complex.{value_at}
use Rattle.cell_grid.specs.Points.{scrambled, point_of}
use Rattle.cell_grid.proofs.points.fill_points.Given as goal

abbrev pub invariant-loop-i : goal.invariant-loop-i
invariant-loop-i l = record {
  whole : length l.points ≡ length l.fn.points;
  each : (k : ℕ) → k < l.i → value_at l.points k ≡ point_of (scrambled l.fn.c_init (λ i. get_or l.fn.bits i false)) k;
}
