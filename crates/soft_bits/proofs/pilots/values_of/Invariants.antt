use Rattle.std.proofs.Common.{◌≡◌, ℕ, ◌*◌, ◌^◌, ◌<◌, length}
use Rattle.std.specs.Prelude.{All}
use Rattle.cs_num.specs.Complex.{IsWithin, value_at}
use Rattle.soft_bits.specs.Kept.{slot_of}
use Rattle.soft_bits.specs.Layout.{laid_out}
use Rattle.soft_bits.specs.Lines.{line_pilot}
use Rattle.soft_bits.proofs.pilots.values_of.Given as goal

abbrev pub invariant-loop-i : goal.invariant-loop-i
invariant-loop-i l = record {
  whole : length l.values ≡ 24;
  each : (k : ℕ) → k < l.i → value_at l.values k ≡ line_pilot (laid_out l.layout (slot_of l.seen)) (slot_of l.seen) k;
  small : All (IsWithin (180 * 2 ^ 25)) l.values;
}
