use Rattle.std.proofs.Common.{◌≡◌, ℕ, ◌<◌, length}
use Rattle.std.specs.List.{HoldsAt}
use Rattle.wide_list.specs.Bits.{AreWideBits}
use Rattle.wide_list.proofs.Lists.{AreInformed}
use Rattle.wide_list.proofs.informing.inform_each.Given as goal

abbrev pub invariant-loop-at : goal.invariant-loop-at
invariant-loop-at l = record {
  informed : AreInformed l.carrier l.wide l.at l.initial.list l.list;
  size : length l.blocks.items ≡ l.at;
  each : (h : ℕ) → h < l.at → HoldsAt (λ block. HoldsAt (λ before. AreWideBits l.carrier l.wide before block.items) l.initial.list h) l.blocks.items h;
}
