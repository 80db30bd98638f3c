use Rattle.std.proofs.Common.{◌≡◌, ◌*◌, ◌^◌}
use Rattle.std.specs.Prelude.{All}
use Rattle.finite.specs.Lists.{values_below}
use Rattle.cs_num.specs.Complex.{IsWithin}
use Rattle.soft_bits.specs.Lines.{line_pilot}
use Rattle.wide_slot.specs.Lines.{laid_out}
use Rattle.wide_slot.specs.Slot.{slot_from}
use Rattle.wide_slot.proofs.pilots.pilots_of.Given as goal

abbrev pub invariant-loop-i : goal.invariant-loop-i
invariant-loop-i l = record {
  value : l.pilots.items ≡ values_below l.i (line_pilot (laid_out l.layout l.cell l.number) (slot_from l.symbols l.cell l.number));
  small : All (IsWithin (180 * 2 ^ 25)) l.pilots.items;
}
