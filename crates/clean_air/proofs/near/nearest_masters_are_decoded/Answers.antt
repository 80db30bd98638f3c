use Rattle.clean_air.proofs.NearestWords.{nearest_master_is_decoded}
use Rattle.clean_air.proofs.near.nearest_masters_are_decoded.Goals as goal

pub returns : goal.returns
returns c = nearest_master_is_decoded
