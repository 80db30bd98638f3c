use Rattle.pbch.proofs.Words.{one_master}
use Rattle.pbch.proofs.laws.at_most_one_master.Goals as goal

pub returns : goal.returns
returns c = one_master
