use Rattle.clean_air.proofs.LoadedErrors.{loaded_has_little_errors, loaded_is_faithful}
use Rattle.clean_air.proofs.load.loaded_is_faithful.Goals as goal

pub returns-clause-errors : goal.returns-clause-errors
returns-clause-errors c = loaded_has_little_errors

pub returns-clause-faithful : goal.returns-clause-faithful
returns-clause-faithful c = loaded_is_faithful
