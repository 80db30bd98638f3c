use Rattle.std.proofs.Common.{◌≡◌}
use Rattle.finite.specs.Lists.{values_below}
use Rattle.wide_slot.specs.Slot.{slot_from, port_line}
use Rattle.wide_slot.proofs.slot.lines_of.Given as goal

abbrev pub invariant-loop-port : goal.invariant-loop-port
invariant-loop-port l =
    l.lines.items ≡ values_below l.port (port_line (record { cell = l.cell; weights = l.weights; slot = slot_from l.symbols l.cell l.number }))
