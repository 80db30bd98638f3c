use Rattle.std.proofs.Common.{◌≡◌, ◌^◌, ◌≤◌}
use Rattle.cancel.specs.Gain.{greatest_below}
use Rattle.cancel.specs.Steps.{left_of}
use Rattle.cancel.proofs.leaving.greatest_to.Given as goal

abbrev pub invariant-loop-i : goal.invariant-loop-i
invariant-loop-i l = record {
  value : l.greatest ≡ greatest_below l.i (left_of l.samples l.sent l.gain);
  small : l.greatest ≤ 2 ^ 22;
}
