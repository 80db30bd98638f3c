use Rattle.std.specs.Prelude.{All}
use Rattle.cs_num.specs.Complex.{IsWithin}
use Rattle.test_support.proofs.grids.middle.Given as goal

abbrev pub invariant-loop-n : goal.invariant-loop-n
invariant-loop-n l = All (IsWithin 127) l.grid
