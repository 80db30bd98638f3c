use Rattle.std.proofs.Common.{◌≡◌, ◌*◌, ◌≤◌}
use Rattle.finite.specs.Sums.{total_below}
use Rattle.cs_num.specs.Complex.{square}
use Rattle.soft_bits.specs.Kept.{slot_of}
use Rattle.soft_bits.specs.Layout.{laid_out}
use Rattle.soft_bits.specs.Lines.{line_seen}
use Rattle.soft_bits.proofs.energy.energy_along.Given as goal

abbrev pub invariant-loop-i : goal.invariant-loop-i
invariant-loop-i l = record {
  so_far : l.sum ≡ total_below l.i (λ i. square (line_seen (laid_out l.layout (slot_of l.seen)) (slot_of l.seen) i));
  small : l.sum ≤ l.i * 2251799813685248;
}
