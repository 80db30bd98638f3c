use Rattle.added_master.proofs.Decoded.{only_one_decoded}
use Rattle.added_master.proofs.Choices.{only_one_master}
use Rattle.added_master.proofs.laws.one_answer.Goals as goal

pub returns-clause-decoded : goal.returns-clause-decoded
returns-clause-decoded c = only_one_decoded

pub returns-clause-chosen : goal.returns-clause-chosen
returns-clause-chosen c = only_one_master
