use Rattle.std.proofs.Common.{◌≡◌, ◌≤◌, ℕ, Bool, Vec, Global, List, length, map}
use Rattle.evidence.specs.Shown.{with_blocks}
use Rattle.evidence.proofs.support.set_blocks.Given as goal

abbrev pub invariant-loop-bits : goal.invariant-loop-bits
invariant-loop-bits l = record {
  few : length l.blocks.items ≤ length l.supports;
  same : with_blocks l.supports (map (λ (bits : Vec Bool Global). bits.items) l.blocks.items)
      ≡ with_blocks l.initial.supports (map (λ (bits : Vec Bool Global). bits.items) l.initial.blocks.items);
}

-- each turn takes one block
abbrev pub decreases-loop-bits : goal.decreases-loop-bits
decreases-loop-bits l = length l.blocks.items
