use Rattle.clean_air.proofs.FadingCells.{fading_is_through, faithful_is_fading}
use Rattle.clean_air.proofs.through.fading_is_seen_through.Goals as goal

pub returns-clause-through : goal.returns-clause-through
returns-clause-through c = fading_is_through

pub returns-clause-faithful : goal.returns-clause-faithful
returns-clause-faithful c = faithful_is_fading
