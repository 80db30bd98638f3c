use Rattle.std.proofs.Common.{◌≡◌, length, take}
use Rattle.std.specs.Prelude.{map}
use Rattle.pbch.specs.Values.{received_values}
use Rattle.pbch.proofs.broadcast.values.Given as goal

abbrev pub invariant-loop-slot : goal.invariant-loop-slot
invariant-loop-slot l = record {
  so_far : l.frames.items ≡ map received_values (take l.slot-index l.slots);
  count : length l.frames.items ≡ l.slot-index;
}
