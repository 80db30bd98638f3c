use Rattle.std.proofs.Common.{◌^◌}
use Rattle.finite.specs.Sizes.{RowsWithin}
use Rattle.code_tests.proofs.word_rooms.values.Given as goal

abbrev pub invariant-loop-k : goal.invariant-loop-k
invariant-loop-k g l = RowsWithin (2 ^ 20) l.values
