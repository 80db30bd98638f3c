use Rattle.std.proofs.Common.{◌≡◌, ℕ, ◌<◌, length, slice_index_or}
use Rattle.cs_num.specs.Complex.{silence}
use Rattle.cs_num.specs.Rounding.{nearest_sample}
use Rattle.cancel.specs.Steps.{left_of}
use Rattle.cancel.proofs.taking.write_left.Given as goal

abbrev pub invariant-loop-i : goal.invariant-loop-i
invariant-loop-i l = record {
  room : length l.residue ≡ length l.samples;
  each : (k : ℕ) → k < l.i → slice_index_or l.residue k silence ≡ nearest_sample (left_of l.samples l.sent l.gain k);
}
