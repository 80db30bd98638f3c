use Rattle.std.proofs.Common.{◌≡◌, ℕ, ◌<◌, length, slice_index_or}
use Rattle.std.specs.Prelude.{All}
use Rattle.grid_map.specs.Candidate.{group_of_quadruplet}
use Rattle.grid_map.proofs.candidate.groups_of.Given as goal

abbrev pub invariant-loop-q : goal.invariant-loop-q
invariant-loop-q l = record {
  whole : length l.groups ≡ 36;
  each : (k : ℕ) → k < l.q → slice_index_or l.groups k 0 ≡ group_of_quadruplet l.id l.count k;
  inside : All (λ r. r < l.count) l.groups;
}
