use Rattle.turbo_code.proofs.Permutes.{all_permute}
use Rattle.turbo_code.proofs.laws.rows_permute.Goals as goal

pub returns : goal.returns
returns c = all_permute
