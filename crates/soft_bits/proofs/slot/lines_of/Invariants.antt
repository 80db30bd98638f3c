use Rattle.std.proofs.Common.{◌≡◌, length}
use Rattle.finite.specs.Lists.{values_below}
use Rattle.soft_bits.specs.Kept.{slot_of, seen_line}
use Rattle.soft_bits.specs.Lines.{line_of}
use Rattle.soft_bits.proofs.slot.lines_of.Given as goal

abbrev pub invariant-loop-port : goal.invariant-loop-port
invariant-loop-port l = record {
  so_far : l.lines.items ≡ values_below l.port (λ port. seen_line (line_of l.seen.carrier port (slot_of l.seen)) (slot_of l.seen));
  count : length l.lines.items ≡ l.port;
}
