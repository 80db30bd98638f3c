use Rattle.std.proofs.Common.{◌^◌}
use Rattle.std.specs.Prelude.{All}
use Rattle.cs_num.specs.Complex.{IsWithin}
use Rattle.list_tests.proofs.ports.symbol.Given as goal

abbrev pub invariant-loop-k : goal.invariant-loop-k
invariant-loop-k l = All (IsWithin (2 ^ 25)) l.values
