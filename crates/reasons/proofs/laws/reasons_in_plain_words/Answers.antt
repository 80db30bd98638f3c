use Rattle.reasons.proofs.OneReason.{one_reason}
use Rattle.reasons.proofs.InList.{listed_is_in_list, unlisted_has_no_mib}
use Rattle.reasons.proofs.laws.reasons_in_plain_words.Goals as goal

pub returns-clause-listed : goal.returns-clause-listed
returns-clause-listed c = listed_is_in_list

pub returns-clause-one : goal.returns-clause-one
returns-clause-one c = one_reason

pub returns-clause-unread : goal.returns-clause-unread
returns-clause-unread c = unlisted_has_no_mib
