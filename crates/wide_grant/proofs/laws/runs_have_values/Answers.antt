use Rattle.wide_grant.proofs.Values.{run_has_value}
use Rattle.wide_grant.proofs.laws.runs_have_values.Goals as goal

pub returns : goal.returns
returns c = run_has_value
