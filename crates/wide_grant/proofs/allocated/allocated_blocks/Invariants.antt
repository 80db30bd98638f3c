use Rattle.std.proofs.Common.{◌≡◌}
use Rattle.finite.specs.Lists.{values_below}
use Rattle.wide_grant.specs.Grants.{is_allocated as is_allocated_of}
use Rattle.wide_grant.proofs.allocated.allocated_blocks.Given as goal

abbrev pub invariant-loop-b : goal.invariant-loop-b
invariant-loop-b l = l.allocated.items ≡ values_below l.b (is_allocated_of l.blocks l.grant l.odd)
