use Rattle.waveform.proofs.FaithfulNear.{faithful_is_near}
use Rattle.waveform.proofs.heard.faithful_recordings_are_near.Goals as goal

pub returns : goal.returns
returns c = faithful_is_near
