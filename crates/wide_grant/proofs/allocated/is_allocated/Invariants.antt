use Rattle.std.proofs.Common.{◌≡◌, ◌≤◌, ◌<◌, ℕ, false, nat_eq}
use Rattle.wide_grant.specs.Grants.{block_at}
use Rattle.wide_grant.proofs.allocated.is_allocated.Given as goal

abbrev pub invariant-loop-v : goal.invariant-loop-v
invariant-loop-v l =
    (k : ℕ) → l.grant.run.start ≤ k → k < l.v → nat_eq (block_at l.blocks l.grant.mapping l.odd k) l.b ≡ false
