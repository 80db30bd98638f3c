use Rattle.std.proofs.Common.{refl}
use Rattle.wide_grid.specs.Control.{phich_group_in as phich_group_in_of}
use Rattle.wide_grid.proofs.phich.phich_group_in.Goals as goal

pub returns : goal.returns
unfolding phich_group_in_of
returns c =
    rw (c.group_at.ensures, c.deref.ensures.value, c.in_ok-free.ensures, c.value.ensures.value, c.id.ensures.value, c.free_count-count.ensures.value, c.free_count.ensures.value) refl
