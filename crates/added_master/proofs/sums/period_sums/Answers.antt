use Rattle.std.proofs.Common.{refl}
use Rattle.added_master.specs.Sums.{period_sums}
use Rattle.added_master.proofs.sums.period_sums.Goals as goal

pub returns : goal.returns
unfolding period_sums
returns c = rw (c.sums_in_period.ensures, c.sums_in_period-2.ensures, c.sums_in_period-3.ensures, c.sums_in_period-4.ensures, c.sums_in_period-5.ensures) refl
