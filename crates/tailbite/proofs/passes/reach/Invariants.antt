use Rattle.std.proofs.Common.{◌*◌, ◌^◌, get_or}
use Rattle.trellis.specs.Rows.{IsLeastRow}
use Rattle.tailbite.specs.Machine.{shift, step_cost}
use Rattle.tailbite.proofs.passes.reach.Given as goal

abbrev pub invariant-loop-i : goal.invariant-loop-i
invariant-loop-i l = IsLeastRow shift (step_cost l.values) (λ x. get_or l.starts x 0) 64 (2 ^ 30) (3 * 2 ^ 20) l.i l.row
