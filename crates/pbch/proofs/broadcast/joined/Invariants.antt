use Rattle.std.proofs.Common.{◌≡◌, ◌*◌, ◌≤◌, length, take}
use Rattle.std.specs.List.{flat_map}
use Rattle.finite.specs.Sizes.{AllWithin}
use Rattle.pbch.proofs.broadcast.joined.Given as goal

abbrev pub invariant-loop-frame : goal.invariant-loop-frame
invariant-loop-frame l = record {
  so_far : l.values.items ≡ flat_map (λ frame. frame) (take l.frame-index l.frames);
  few : length l.values.items ≤ 480 * l.frame-index;
  small : AllWithin 127 l.values.items;
}
