use Rattle.std.proofs.Common.{◌≡◌, ℕ, ◌<◌, length}
use Rattle.cs_num.specs.Complex.{value_at}
use Rattle.cell_grid.specs.Load.{sent_element}
use Rattle.cell_grid.proofs.grid.grid_of.Given as goal

abbrev pub invariant-loop-k : goal.invariant-loop-k
invariant-loop-k l = record {
  whole : length l.grid ≡ 72;
  each : (j : ℕ) → j < l.k → value_at l.grid j ≡ sent_element l.signals.load l.signals.port l.signals.cell.now l.signals.sfn l.subframe l.symbol j;
}
