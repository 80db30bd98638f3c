use Rattle.std.proofs.Common.{arith, refl, ◌≡◌, ◌∙◌, ap}
use Rattle.finite.specs.Sums.{total_below}
use Rattle.finite.proofs.Sums.{total_below_more}
use Rattle.lte_types.specs.Carrier.{ports_of}
use Rattle.soft_bits.specs.Kept.{slot_of}
use Rattle.soft_bits.specs.Lines.{port_energy, ports_energy}
use Rattle.soft_bits.proofs.Lines.{few_ports}
use Rattle.soft_bits.proofs.energy.energy_of.Goals as goal

pub loop-port-init : goal.loop-port-init
unfolding total_below
loop-port-init c = record { so_far = refl; small = omega arith }

pub loop-port-preserved : goal.loop-port-preserved
loop-port-preserved c =
    let few = few_ports c.args.seen.now.carrier in
    let before = c.loop-port.invariant.so_far in
    let here = c.energy_of_port-sum.ensures.value in
    let more = total_below_more c.loop-port.port (port_energy c.args.seen.now.carrier (slot_of c.args.seen.now)) in
    record { so_far = cc; small = omega arith }

pub returns : goal.returns
unfolding ports_energy
returns c =
    let carrier = c.args.seen.now.carrier in
    let last : c.loop-port.port ≡ ports_of carrier = omega arith in
    record {
      value = c.loop-port.invariant.so_far ∙ ap (λ n. total_below n (port_energy carrier (slot_of c.args.seen.now))) last;
      few = let h = c.loop-port.invariant.small in rw last at h;
    }
