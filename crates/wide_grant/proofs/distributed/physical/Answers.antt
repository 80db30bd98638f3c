use Rattle.std.proofs.Common.{refl}
use Rattle.wide_grant.specs.Distributed.{physical as physical_of}
use Rattle.wide_grant.proofs.distributed.physical.Goals as goal

pub returns : goal.returns
unfolding physical_of
returns c = record {
  value = rw (c.after_gap.ensures.value, c.in_slot.ensures.value, c.interleaved-even.ensures.value, c.gap.ensures.value, c.rows.ensures.value, c.nulls.ensures.value, c.unit-unit.ensures.value) refl;
}
