use Rattle.sync_seq.proofs.Distinct.{secondary_determines}
use Rattle.sync_seq.proofs.secondary_determines_group_and_half.Goals as goal

pub returns : goal.returns
returns c = secondary_determines
