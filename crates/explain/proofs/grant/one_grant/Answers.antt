use Rattle.explain.proofs.Granted.{one_grant_of}
use Rattle.explain.proofs.grant.one_grant.Goals as goal

pub returns : goal.returns
returns c = one_grant_of
