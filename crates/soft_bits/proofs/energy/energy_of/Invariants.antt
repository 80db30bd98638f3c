use Rattle.std.proofs.Common.{◌≡◌, ◌*◌, ◌^◌, ◌≤◌}
use Rattle.finite.specs.Sums.{total_below}
use Rattle.soft_bits.specs.Kept.{slot_of}
use Rattle.soft_bits.specs.Lines.{port_energy}
use Rattle.soft_bits.proofs.energy.energy_of.Given as goal

abbrev pub invariant-loop-port : goal.invariant-loop-port
invariant-loop-port l = record {
  so_far : l.sum ≡ total_below l.port (port_energy l.seen.carrier (slot_of l.seen));
  small : l.sum ≤ l.port * (24 * 2 ^ 51);
}
