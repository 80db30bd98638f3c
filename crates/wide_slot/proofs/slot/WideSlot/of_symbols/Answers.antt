use Rattle.std.proofs.Common.{◌∙◌, ap, List}
use Rattle.finite.specs.Lists.{values_below}
use Rattle.cs_num.specs.declared.Cpx.{Cpx}
use Rattle.wide_slot.specs.Slot.{WideSeen, slot_from, port_line, ports_energy}
use Rattle.wide_slot.proofs.slot.WideSlot.of_symbols.Goals as goal

pub invariant_of-result : goal.invariant_of-result
invariant_of-result c =
    let seen : List (List Cpx) → WideSeen =
    λ symbols. record { cell = c.args.cell.now; weights = c.args.weights; slot = slot_from symbols c.args.cell.now c.args.number } in
    record {
      weights = c.requires.weights;
      small = c.requires.small;
      lines = c.in_ok-lines.ensures ∙ ap (λ (symbols : List (List Cpx)). values_below c.args.cell.now.ports (port_line (seen symbols))) c.deref.ensures.value;
      energy = c.energy_of-energy.ensures.value c.args.weights ∙ ap (λ (symbols : List (List Cpx)). ports_energy (seen symbols)) c.deref-2.ensures.value;
      few = c.energy_of-energy.ensures.few;
    }
