use Rattle.std.proofs.Common.{arith, ◌∙◌, ◌*◌, ◌^◌, ◌+◌, length-set, refl}
use Rattle.std.proofs.lemmas.List.Elements.{All-set, All-replicate}
use Rattle.std.proofs.lemmas.List.Edits.{fill_by_more}
use Rattle.finite.proofs.Lists.{front_is}
use Rattle.cs_num.specs.Complex.{nothing, IsWithin}
use Rattle.soft_bits.specs.Soft.{SeenSlot}
use Rattle.soft_bits.specs.Kept.{slot_of}
use Rattle.soft_bits.specs.Layout.{laid_out}
use Rattle.soft_bits.specs.Lines.{line_pilot}
use Rattle.soft_bits.proofs.Layouts.{layout-whole}
use Rattle.soft_bits.proofs.pilots.values_of.Goals as goal

pub loop-i-init : goal.loop-i-init
loop-i-init c = record {
  whole = refl;
  each = λ k few. absurd (omega (arith, few));
  small = All-replicate (IsWithin (180 * 2 ^ 25)) 24 nothing (record { re = omega arith; im = omega arith });
}

pub loop-i-preserved : goal.loop-i-preserved
loop-i-preserved c =
    let slot : SeenSlot = slot_of c.args.seen.now in
    let few = (layout-whole c.args.layout.now c.requires).2 in
    record {
      whole = length-set c.loop-i.values c.loop-i.i _ ∙ c.loop-i.invariant.whole;
      each = rw c.pilot_of.ensures.value (fill_by_more (line_pilot (laid_out c.args.layout.now slot) slot) c.loop-i.values c.loop-i.i nothing (omega arith) c.loop-i.invariant.each);
      small = All-set (IsWithin (180 * 2 ^ 25)) c.loop-i.values c.loop-i.i c.pilot_of.result c.pilot_of.ensures.small c.loop-i.invariant.small;
    }

pub returns : goal.returns
returns c =
    let slot : SeenSlot = slot_of c.args.seen.now in
    let layout = c.args.layout.now in
    let few = (layout-whole layout c.requires).2 in
    record {
      value = front_is nothing (layout.last + 1) (line_pilot (laid_out layout slot) slot) c.loop-i.values (omega arith) (λ k below. c.loop-i.invariant.each k (omega arith));
      small = c.loop-i.invariant.small;
    }
