use Rattle.std.proofs.Common.{◌≡◌, ◌-◌, ◌≤◌, length, take}
use Rattle.cell_tx.proofs.emitter.put_all.Given as goal

abbrev pub decreases-loop-emitter : goal.decreases-loop-emitter
decreases-loop-emitter l = length l.fn.emitter.samples - l.at

abbrev pub invariant-loop-emitter : goal.invariant-loop-emitter
invariant-loop-emitter l = record {
  samples : l.emitter.samples ≡ l.fn.emitter.samples;
  at : l.emitter.at ≡ l.at;
  within : l.at ≤ length l.fn.emitter.samples;
  whole : length l.out ≡ length l.fn.emitter.samples;
  done : take l.at l.out ≡ take l.at l.fn.emitter.samples;
}
