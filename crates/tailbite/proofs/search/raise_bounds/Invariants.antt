use Rattle.std.proofs.Common.{◌≡◌, length}
use Rattle.tailbite.specs.Keys.{AreBounds, IsKeyOrFar}
use Rattle.tailbite.proofs.search.raise_bounds.Given as goal

abbrev pub invariant-loop-start : goal.invariant-loop-start
invariant-loop-start l = (length l.bounds ≡ 64) × AreBounds l.values l.bounds × IsKeyOrFar l.values l.least
