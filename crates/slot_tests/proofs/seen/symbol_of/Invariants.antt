use Rattle.std.specs.Prelude.{◌^◌, All}
use Rattle.cs_num.specs.Complex.{IsWithin}
use Rattle.slot_tests.proofs.seen.symbol_of.Given as goal

abbrev pub invariant-loop-k : goal.invariant-loop-k
invariant-loop-k l = All (IsWithin (2 ^ 25)) l.seen
