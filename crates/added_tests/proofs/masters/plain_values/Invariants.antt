use Rattle.std.proofs.Common.{◌≡◌, length}
use Rattle.finite.specs.Sizes.{AllWithin}
use Rattle.added_tests.proofs.masters.plain_values.Given as goal

abbrev pub invariant-loop-i : goal.invariant-loop-i
invariant-loop-i l = record {
  whole : length l.values ≡ 480;
  small : AllWithin 127 l.values;
}
