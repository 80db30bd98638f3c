use Rattle.std.proofs.Common.{◌≡◌, ◌*◌, ◌^◌, ◌≤◌}
use Rattle.finite.specs.Sums.{total_below}
use Rattle.cs_num.specs.Complex.{square}
use Rattle.soft_bits.specs.Lines.{line_seen}
use Rattle.wide_slot.specs.Lines.{laid_out}
use Rattle.wide_slot.specs.Slot.{slot_from}
use Rattle.wide_slot.proofs.pilots.energy_along.Given as goal

abbrev pub invariant-loop-i : goal.invariant-loop-i
invariant-loop-i l = record {
  so_far : l.sum ≡ total_below l.i (λ i. square (line_seen (laid_out l.layout l.cell l.number) (slot_from l.symbols l.cell l.number) i));
  small : l.sum ≤ l.i * 2 ^ 51;
}
