use Rattle.clean_air.proofs.Controls.{spoken_grant_is_read, heard_grant_is_read, carried_grant_is_read}
use Rattle.clean_air.proofs.control.sent_grant_is_read.Goals as goal

pub returns-clause-spoken : goal.returns-clause-spoken
returns-clause-spoken c = spoken_grant_is_read

pub returns-clause-heard : goal.returns-clause-heard
returns-clause-heard c = heard_grant_is_read

pub returns-clause-carried : goal.returns-clause-carried
returns-clause-carried c = carried_grant_is_read
