use Rattle.clean_air.proofs.NearCells.{decoded_master_is_listed}
use Rattle.clean_air.proofs.near.decoded_masters_are_listed.Goals as goal

pub returns : goal.returns
returns c = decoded_master_is_listed
