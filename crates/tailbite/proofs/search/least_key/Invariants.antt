use Rattle.std.proofs.Common.{◌≡◌, ℕ, ◌<◌, ◌≤◌, get_or, length}
use Rattle.std.specs.Prelude.{count_by, nat_lt}
use Rattle.tailbite.specs.Keys.{AreBounds, IsKeyOrFar}
use Rattle.tailbite.proofs.search.least_key.Given as goal

abbrev pub invariant-loop-bounds : goal.invariant-loop-bounds
invariant-loop-bounds l = record {
  count : length l.bounds ≡ 64;
  bounds : AreBounds l.values l.bounds;
  reached : IsKeyOrFar l.values l.least;
  state : l.start < 64;
  least : (x : ℕ) → x < 64 → get_or l.bounds l.start 0 ≤ get_or l.bounds x 0;
}

abbrev pub decreases-loop-bounds : goal.decreases-loop-bounds
decreases-loop-bounds l = count_by (λ b. nat_lt b l.least) l.bounds
