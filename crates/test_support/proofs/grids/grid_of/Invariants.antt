use Rattle.std.specs.Prelude.{All}
use Rattle.cs_num.specs.Complex.{IsWithin}
use Rattle.test_support.proofs.grids.grid_of.Given as goal

abbrev pub invariant-loop-k : goal.invariant-loop-k
invariant-loop-k l = All (IsWithin 127) l.grid
