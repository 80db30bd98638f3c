use Rattle.clean_air.proofs.HeardCells as heard
use Rattle.clean_air.proofs.through.slot_through_is_heard.Goals as goal

pub returns : goal.returns
returns c = heard.slot_through_is_heard
