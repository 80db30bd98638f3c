use Rattle.clean_air.proofs.Controls.{sent_grant_is_decoded, heard_grant_is_decoded, carried_grant_is_decoded}
use Rattle.clean_air.proofs.control.sent_grant_is_decoded.Goals as goal

pub returns-clause-decoded : goal.returns-clause-decoded
returns-clause-decoded c = sent_grant_is_decoded

pub returns-clause-heard : goal.returns-clause-heard
returns-clause-heard c = heard_grant_is_decoded

pub returns-clause-carried : goal.returns-clause-carried
returns-clause-carried c = carried_grant_is_decoded
