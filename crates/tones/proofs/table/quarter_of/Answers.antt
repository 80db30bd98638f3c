use Rattle.std.proofs.Common.{◌≤◌, slice_index, ℤ, subst, sym}
use Rattle.std.specs.Prelude.{nat_abs}
use Rattle.tones.specs.Tones.{quarter}
use Rattle.tones.proofs.Entries.{quarter_small, quarter_fits, quarter_kept}
use Rattle.tones.proofs.table.quarter_of.Goals as goal

-- by computation: the table lists C(0) to C(512)
pub overflow_cast-result : goal.overflow_cast-result
unfolding quarter
overflow_cast-result c = quarter_fits (slice_index quarter c.args.m) (quarter_small c.args.m c.requires)

pub returns-clause-value : goal.returns-clause-value
unfolding quarter
returns-clause-value c = quarter_kept (slice_index quarter c.args.m) (quarter_small c.args.m c.requires)

pub returns-clause-small : goal.returns-clause-small
unfolding quarter
returns-clause-small c =
    let small = quarter_small c.args.m c.requires in
    subst (λ (z : ℤ). nat_abs z ≤ 262144) (sym (quarter_kept (slice_index quarter c.args.m) small)) small
