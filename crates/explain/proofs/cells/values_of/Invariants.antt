use Rattle.std.proofs.Common.{◌≡◌, ◌+◌, length}
use Rattle.finite.specs.Lists.{values_below}
use Rattle.pbch.specs.Values.{received_values}
use Rattle.explain.specs.Frame.{broadcast_slot}
use Rattle.explain.proofs.cells.values_of.Given as goal

-- the frames so far were received
abbrev pub invariant-loop-m : goal.invariant-loop-m
invariant-loop-m l = record {
  so_far : l.frames.items ≡ values_below l.m (λ m. received_values (broadcast_slot l.recording l.entry.id l.entry.start (l.entry.frame + m)));
  count : length l.frames.items ≡ l.m;
}
