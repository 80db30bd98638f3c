use Rattle.budget.proofs.Peaks.{primary_stands_out, primary_is_hit, primary_is_listed, only_hit_near}
use Rattle.budget.proofs.peak.clean_primary_is_a_hit.Goals as goal

pub returns-clause-stands_out : goal.returns-clause-stands_out
returns-clause-stands_out c = primary_stands_out

pub returns-clause-hit : goal.returns-clause-hit
returns-clause-hit c = primary_is_hit

pub returns-clause-alone : goal.returns-clause-alone
returns-clause-alone c = only_hit_near

pub returns-clause-listed : goal.returns-clause-listed
returns-clause-listed c = primary_is_listed
