use Rattle.accumulated_sss.proofs.Detections.{detection_is_right, only_one_detection}
use Rattle.accumulated_sss.proofs.Agree.{first_samples_decide}
use Rattle.accumulated_sss.proofs.detection_is_right.Goals as goal

pub returns-clause-right : goal.returns-clause-right
returns-clause-right c = detection_is_right

pub returns-clause-only : goal.returns-clause-only
returns-clause-only c = only_one_detection

pub returns-clause-decided : goal.returns-clause-decided
returns-clause-decided c = first_samples_decide
