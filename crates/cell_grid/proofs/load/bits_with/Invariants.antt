use Rattle.std.proofs.Common.{◌≡◌, ℕ, ◌*◌, ◌<◌, length, get_or, false}
use Rattle.cell_grid.proofs.LoadBits.{bit_at}
use Rattle.cell_grid.proofs.load.bits_with.Given as goal

abbrev pub invariant-loop-subframe : goal.invariant-loop-subframe
invariant-loop-subframe l = record {
  whole : length l.bits ≡ 20160;
  each : (n : ℕ) → n < 2016 * l.subframe → get_or l.bits n false ≡ bit_at l.load l.port l.sfn n;
}
