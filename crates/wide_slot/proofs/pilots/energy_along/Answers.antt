use Rattle.std.proofs.Common.{arith, refl, ◌≡◌, ◌∙◌, ◌+◌, ap}
use Rattle.finite.specs.Sums.{total_below}
use Rattle.finite.proofs.Sums.{total_below_more}
use Rattle.cs_num.specs.Complex.{square}
use Rattle.soft_bits.specs.Lines.{line_seen, line_energy}
use Rattle.wide_slot.specs.Lines.{laid_out}
use Rattle.wide_slot.specs.Slot.{slot_from}
use Rattle.wide_slot.proofs.pilots.energy_along.Goals as goal

pub loop-i-init : goal.loop-i-init
unfolding total_below
loop-i-init c = record { so_far = refl; small = omega arith }

pub loop-i-preserved : goal.loop-i-preserved
loop-i-preserved c =
    let before = c.loop-i.invariant.so_far in
    let here = c.energy_part-sum.ensures.value in
    let more = total_below_more c.loop-i.i (λ i. square (line_seen (laid_out c.args.layout.now c.args.cell.now c.args.number) (slot_from c.args.symbols.now c.args.cell.now c.args.number) i)) in
    record { so_far = cc; small = omega arith }

pub returns-clause-value : goal.returns-clause-value
unfolding line_energy
returns-clause-value c =
    let last : c.loop-i.i ≡ c.args.layout.now.last + 1 = omega arith in
    c.loop-i.invariant.so_far
    ∙ ap (λ n. total_below n (λ i. square (line_seen (laid_out c.args.layout.now c.args.cell.now c.args.number) (slot_from c.args.symbols.now c.args.cell.now c.args.number) i))) last
