use Rattle.std.proofs.Common.{◌≡◌, ◌^◌, ◌≤◌, ◌*◌, min, length}
use Rattle.cancel.specs.Gain.{greatest_below}
use Rattle.cancel.specs.Steps.{left_of}
use Rattle.cancel.proofs.leaving.greatest_of.Given as goal

abbrev pub invariant-loop-k : goal.invariant-loop-k
invariant-loop-k l = record {
  value : l.greatest ≡ greatest_below (min (256 * l.k) (length l.samples)) (left_of l.samples l.sent l.gain);
  small : l.greatest ≤ 2 ^ 22;
}
