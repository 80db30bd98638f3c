use Rattle.wide_list.proofs.Lists.{one_wide_list}
use Rattle.wide_list.proofs.laws.one_wide_list.Goals as goal

pub returns : goal.returns
returns c = one_wide_list
