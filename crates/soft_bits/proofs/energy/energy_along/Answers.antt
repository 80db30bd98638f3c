use Rattle.std.proofs.Common.{arith, refl, ◌≡◌, ◌∙◌, ◌+◌, ap}
use Rattle.finite.specs.Sums.{total_below}
use Rattle.finite.proofs.Sums.{total_below_more}
use Rattle.cs_num.specs.Complex.{square}
use Rattle.soft_bits.specs.Kept.{slot_of}
use Rattle.soft_bits.specs.Layout.{laid_out}
use Rattle.soft_bits.specs.Lines.{line_seen, line_energy}
use Rattle.soft_bits.proofs.Layouts.{layout-whole}
use Rattle.soft_bits.proofs.energy.energy_along.Goals as goal

pub loop-i-init : goal.loop-i-init
unfolding total_below
loop-i-init c = record { so_far = refl; small = omega arith }

pub loop-i-preserved : goal.loop-i-preserved
loop-i-preserved c =
    let slot = slot_of c.args.seen.now in
    let before = c.loop-i.invariant.so_far in
    let here = c.energy_part-sum.ensures.value in
    let more = total_below_more c.loop-i.i (λ i. square (line_seen (laid_out c.args.layout.now slot) slot i)) in
    record { so_far = cc; small = omega arith }

pub returns : goal.returns
unfolding line_energy
returns c =
    let slot = slot_of c.args.seen.now in
    let few = (layout-whole c.args.layout.now c.requires).2 in
    let last : c.loop-i.i ≡ c.args.layout.now.last + 1 = omega arith in
    record {
      value = c.loop-i.invariant.so_far ∙ ap (λ n. total_below n (λ i. square (line_seen (laid_out c.args.layout.now slot) slot i))) last;
      few = let h = c.loop-i.invariant.small in omega (arith, h, last);
    }
