use Rattle.std.proofs.Common.{◌≡◌, ◌*◌, ◌^◌, ◌≤◌}
use Rattle.finite.specs.Sums.{total_below}
use Rattle.wide_slot.specs.declared.weights.Weights.{Weights}
use Rattle.wide_slot.specs.Slot.{slot_from, port_energy}
use Rattle.wide_slot.proofs.slot.energy_of.Given as goal

abbrev pub invariant-loop-port : goal.invariant-loop-port
invariant-loop-port l = record {
  so_far : (weights : Weights) → l.sum ≡ total_below l.port (port_energy (record { cell = l.cell; weights = weights; slot = slot_from l.symbols l.cell l.number }));
  small : l.sum ≤ l.port * (400 * 2 ^ 51);
}
