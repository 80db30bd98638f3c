use Rattle.std.proofs.Common.{arith, ◌∙◌, ◌+◌, ap, length}
use Rattle.finite.proofs.Lists.{values_below-length}
use Rattle.soft_bits.specs.Lines.{line_pilot}
use Rattle.wide_slot.specs.Lines.{laid_out}
use Rattle.wide_slot.specs.Slot.{slot_from}
use Rattle.wide_slot.proofs.Lengths.{smoothed-length, steps}
use Rattle.wide_slot.proofs.slot.line_of.Goals as goal

pub new-requires : goal.new-requires
new-requires c =
    let valid = c.layout_of-layout.ensures.valid in
    let ends = steps c.layout_of-layout.result.step valid.step in
    let long = ap length c.in_ok-values.ensures.value ∙ smoothed-length c.args.weights c.deref.result.now in
    let raw = ap length (c.deref.ensures.value ∙ c.in_ok-pilots.ensures.value)
    ∙ values_below-length (c.layout_of-layout.result.last + 1) (line_pilot (laid_out c.layout_of-layout.result c.args.cell.now c.args.number) (slot_from c.args.symbols.now c.args.cell.now c.args.number)) in
    record {
      some = ends.0;
      near = ends.1;
      few = let few = valid.few in omega (arith, long, raw, few);
      small = c.in_ok-values.ensures.small;
    }
