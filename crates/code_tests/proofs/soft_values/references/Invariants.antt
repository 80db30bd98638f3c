use Rattle.std.proofs.Common.{◌^◌, All}
use Rattle.cs_num.specs.Complex.{IsWithin}
use Rattle.code_tests.proofs.soft_values.references.Given as goal

abbrev pub invariant-loop-m : goal.invariant-loop-m
invariant-loop-m l = All (IsWithin (2 ^ 25)) l.seen
