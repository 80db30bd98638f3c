use Rattle.std.proofs.Common.{◌≡◌, ◌+◌, ◌*◌}
use Rattle.accumulated_pss.specs.Steps.{window_of, AreRows}
use Rattle.accumulated_pss.proofs.sums.Accumulated.add_half_frame.Given as goal

abbrev pub invariant-loop : goal.invariant-loop
invariant-loop l = record {
  recording : l.sweep.recording ≡ window_of l.samples (9600 * l.half);
  place : l.sweep.place ≡ l.counter;
}

abbrev pub invariant-loop-i : goal.invariant-loop-i
invariant-loop-i l = record {
  recording : l.sweep.recording ≡ window_of l.samples (9600 * l.half);
  place : l.sweep.place ≡ 137 + l.i;
  rows : AreRows l.samples l.half l.i l.self;
}
