use Rattle.std.proofs.Common.{◌≡◌, ◌*◌, ◌^◌}
use Rattle.std.specs.Prelude.{All}
use Rattle.finite.specs.Lists.{values_below}
use Rattle.cs_num.specs.Complex.{IsWithin}
use Rattle.wide_slot.specs.Lines.{smoothed_at}
use Rattle.wide_slot.proofs.pilots.smooth.Given as goal

abbrev pub invariant-loop-i : goal.invariant-loop-i
invariant-loop-i l = record {
  value : l.smooth.items ≡ values_below l.i (smoothed_at l.weights l.pilots);
  small : All (IsWithin (1440 * 2 ^ 25)) l.smooth.items;
}
