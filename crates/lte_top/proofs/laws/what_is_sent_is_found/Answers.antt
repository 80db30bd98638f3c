use Rattle.lte_top.proofs.Found.{sent_is_found}
use Rattle.lte_top.proofs.laws.what_is_sent_is_found.Goals as goal

pub returns : goal.returns
returns c = sent_is_found c.sum_is_clean.ensures.emitted
