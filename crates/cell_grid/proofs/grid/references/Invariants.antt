use Rattle.std.proofs.Common.{◌≡◌, ℕ, ◌<◌, length, get_or, None}
use Rattle.cell_grid.specs.Rows.{port_reference_if}
use Rattle.cell_grid.proofs.grid.references.Given as goal

abbrev pub invariant-loop-k : goal.invariant-loop-k
invariant-loop-k l = record {
  whole : length l.row ≡ 72;
  each : (j : ℕ) → j < l.k → get_or l.row j None ≡ port_reference_if l.fn.port l.fn.id l.slot l.symbol j;
}
