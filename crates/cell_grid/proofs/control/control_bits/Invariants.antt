use Rattle.std.proofs.Common.{◌≡◌, ℕ, ◌<◌, length, get_or, false}
use Rattle.cell_grid.specs.Control.{control_word}
use Rattle.cell_grid.specs.Block.{coded_bit}
use Rattle.cell_grid.proofs.control.control_bits.Given as goal

abbrev pub invariant-loop-i : goal.invariant-loop-i
invariant-loop-i l = record {
  whole : length l.bits ≡ 288;
  each : (k : ℕ) → k < l.i → get_or l.bits k false ≡ coded_bit (control_word l.fn.cell l.fn.sfn) k;
}
