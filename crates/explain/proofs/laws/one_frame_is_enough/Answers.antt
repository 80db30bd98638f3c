use Rattle.explain.proofs.OneFrame.{one_frame_decodes, one_frame_alone, one_frame_is_listed}
use Rattle.explain.proofs.laws.one_frame_is_enough.Goals as goal

pub returns-clause-decodes : goal.returns-clause-decodes
returns-clause-decodes c = one_frame_decodes

pub returns-clause-alone : goal.returns-clause-alone
returns-clause-alone c = one_frame_alone

pub returns-clause-listed : goal.returns-clause-listed
returns-clause-listed c = one_frame_is_listed
