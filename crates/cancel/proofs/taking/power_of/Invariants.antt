use Rattle.std.proofs.Common.{◌≡◌, ◌*◌, ◌≤◌}
use Rattle.cs_num.specs.Complex.{sample_at}
use Rattle.norms.specs.Magnitudes.{energy_below}
use Rattle.cancel.proofs.taking.power_of.Given as goal

abbrev pub invariant-loop-i : goal.invariant-loop-i
invariant-loop-i l = record {
  value : l.sum ≡ energy_below l.i (sample_at l.samples);
  small : l.sum ≤ l.i * 2147483648;
}
