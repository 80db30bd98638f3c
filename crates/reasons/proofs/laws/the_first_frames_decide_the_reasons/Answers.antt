use Rattle.reasons.proofs.Agree.{first_frames_decide_reasons}
use Rattle.reasons.proofs.laws.the_first_frames_decide_the_reasons.Goals as goal

pub returns : goal.returns
returns c = first_frames_decide_reasons
