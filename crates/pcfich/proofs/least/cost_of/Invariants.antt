use Rattle.std.proofs.Common.{◌≡◌, ◌*◌, ◌≤◌, pos, slice_index_or}
use Rattle.finite.specs.Sums.{total_below}
use Rattle.cs_bits.specs.Signs.{disagreement}
use Rattle.grid_map.specs.Scrambling.{indicator_bit}
use Rattle.pcfich.proofs.least.cost_of.Given as goal

abbrev pub invariant-loop-i : goal.invariant-loop-i
invariant-loop-i l = record {
  so_far : l.cost ≡ total_below l.i (λ i. disagreement (slice_index_or l.values i (pos 0)) (indicator_bit l.indicator i));
  small : l.cost ≤ l.i * 127;
}
