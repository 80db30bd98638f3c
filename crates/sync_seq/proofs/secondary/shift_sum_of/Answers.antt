use Rattle.std.proofs.Common.{refl}
use Rattle.sync_seq.specs.Secondary.{shift_sum}
use Rattle.sync_seq.proofs.secondary.shift_sum_of.Goals as goal

pub returns-clause-value : goal.returns-clause-value
unfolding shift_sum
returns-clause-value c = refl
