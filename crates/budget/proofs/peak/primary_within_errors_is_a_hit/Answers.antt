use Rattle.budget.proofs.Peaks.{primary_stands_out_by, primary_is_hit_within, primary_is_listed_within, only_hit_of_root_within}
use Rattle.budget.proofs.peak.primary_within_errors_is_a_hit.Goals as goal

pub returns-clause-stands_out : goal.returns-clause-stands_out
returns-clause-stands_out c = primary_stands_out_by

pub returns-clause-hit : goal.returns-clause-hit
returns-clause-hit c = primary_is_hit_within

pub returns-clause-listed : goal.returns-clause-listed
returns-clause-listed c = primary_is_listed_within

pub returns-clause-alone : goal.returns-clause-alone
returns-clause-alone c = only_hit_of_root_within
