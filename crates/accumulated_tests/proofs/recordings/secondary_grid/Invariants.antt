use Rattle.std.specs.Prelude.{All}
use Rattle.cs_num.specs.Complex.{IsWithin}
use Rattle.accumulated_tests.proofs.recordings.secondary_grid.Given as goal

abbrev pub invariant-loop-n : goal.invariant-loop-n
invariant-loop-n l = All (IsWithin 127) l.grid
