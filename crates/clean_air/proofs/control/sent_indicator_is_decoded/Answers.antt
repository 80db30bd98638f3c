use Rattle.clean_air.proofs.Controls.{sent_indicator_is_decoded, heard_indicator_is_decoded, carried_indicator_is_decoded}
use Rattle.clean_air.proofs.control.sent_indicator_is_decoded.Goals as goal

pub returns-clause-decoded : goal.returns-clause-decoded
returns-clause-decoded c = sent_indicator_is_decoded

pub returns-clause-heard : goal.returns-clause-heard
returns-clause-heard c = heard_indicator_is_decoded

pub returns-clause-carried : goal.returns-clause-carried
returns-clause-carried c = carried_indicator_is_decoded
