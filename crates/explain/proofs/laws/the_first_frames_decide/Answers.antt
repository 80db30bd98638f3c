use Rattle.explain.proofs.Deciding.{first_frames_decide, first_frames_decide_all}
use Rattle.explain.proofs.laws.the_first_frames_decide.Goals as goal

pub returns-clause-one_port : goal.returns-clause-one_port
returns-clause-one_port c = first_frames_decide

pub returns-clause-all : goal.returns-clause-all
returns-clause-all c = first_frames_decide_all
