use Rattle.std.proofs.Common.{◌++◌, ◌∷◌, [], ◌∙◌, ap₂, sym}
use Rattle.finite.proofs.Lists.{values_below_more}
use Rattle.wide_slot.specs.Slot.{slot_from, port_line}
use Rattle.wide_slot.proofs.slot.lines_of.Goals as goal

pub loop-port-preserved : goal.loop-port-preserved
loop-port-preserved c =
    c.in_ok-push.ensures.items ∙ ap₂ (λ before last. before ++ (last ∷ [])) c.loop-port.invariant c.in_ok-line_of.ensures
    ∙ sym (values_below_more c.loop-port.port (port_line (record { cell = c.args.cell.now; weights = c.args.weights; slot = slot_from c.args.symbols.now c.args.cell.now c.args.number })))
