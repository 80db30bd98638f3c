use Rattle.std.proofs.Common.{arith, ◌≡◌, ◌∙◌, ◌+◌, ap, ap₂, sym}
use Rattle.finite.specs.Sums.{total_below}
use Rattle.finite.proofs.Sums.{total_below_none, total_below_more}
use Rattle.wide_slot.specs.Slot.{slot_from, port_energy, ports_energy}
use Rattle.wide_slot.proofs.Lengths.{ports_few}
use Rattle.wide_slot.proofs.slot.energy_of.Goals as goal

pub loop-port-init : goal.loop-port-init
loop-port-init c = record {
  so_far = λ weights. sym (total_below_none (port_energy (record { cell = c.args.cell.now; weights = weights; slot = slot_from c.args.symbols.now c.args.cell.now c.args.number })));
  small = omega arith;
}

pub loop-port-preserved : goal.loop-port-preserved
loop-port-preserved c = record {
  so_far = λ weights.
      ap₂ (λ a b. a + b) (c.loop-port.invariant.so_far weights) (c.energy_of_port-sum.ensures.value weights)
      ∙ sym (total_below_more c.loop-port.port (port_energy (record { cell = c.args.cell.now; weights = weights; slot = slot_from c.args.symbols.now c.args.cell.now c.args.number })));
  small = omega (arith, c.loop-port.invariant.small, c.energy_of_port-sum.ensures.few);
}

pub returns-clause-value : goal.returns-clause-value
unfolding ports_energy
returns-clause-value c weights =
    let same = c.ports-port-end.ensures.value in
    let last : c.loop-port.port ≡ c.args.cell.now.ports = omega (arith, same) in
    c.loop-port.invariant.so_far weights
    ∙ ap (λ n. total_below n (port_energy (record { cell = c.args.cell.now; weights = weights; slot = slot_from c.args.symbols.now c.args.cell.now c.args.number }))) last

pub returns-clause-few : goal.returns-clause-few
returns-clause-few c =
    let ports = ports_few c.args.cell.now.ports c.ports-port-end.ensures.valid.ports in
    let same = c.ports-port-end.ensures.value in
    omega (arith, c.loop-port.invariant.small, ports, same)
