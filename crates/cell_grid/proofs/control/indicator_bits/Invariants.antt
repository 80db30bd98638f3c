use Rattle.std.proofs.Common.{◌≡◌, ℕ, ◌<◌, length, get_or, false}
use Rattle.grid_map.specs.Scrambling.{indicator_bit}
use Rattle.cell_grid.proofs.control.indicator_bits.Given as goal

abbrev pub invariant-loop-i : goal.invariant-loop-i
invariant-loop-i l = record {
  whole : length l.bits ≡ 32;
  each : (k : ℕ) → k < l.i → get_or l.bits k false ≡ indicator_bit l.fn.indicator k;
}
