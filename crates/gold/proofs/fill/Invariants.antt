use Rattle.std.proofs.Common.{ℕ, ◌≡◌, ◌<◌, ◌+◌, ◌*◌, get_or, false, length, ◌-◌}
use Rattle.gold.specs.Gold.{gold_bit}
use Rattle.gold.proofs.Registers.{StandAt}
use Rattle.gold.proofs.fill.Given as goal

abbrev pub invariant-loop-block : goal.invariant-loop-block
invariant-loop-block l = StandAt l.c_init (25 * l._block) l.first l.second

abbrev pub invariant-loop-at : goal.invariant-loop-at
invariant-loop-at l = record {
  registers : StandAt l.c_init (l.at + 1600) l.first l.second;
  written : (k : ℕ) → k < l.at → k < length l.out → get_or l.out k false ≡ gold_bit l.c_init k;
}

abbrev pub decreases-loop-at : goal.decreases-loop-at
decreases-loop-at l = length l.initial.out - l.at
