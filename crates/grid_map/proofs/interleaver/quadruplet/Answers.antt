use Rattle.grid_map.specs.Control.{quadruplet_at}
use Rattle.grid_map.proofs.interleaver.quadruplet.Goals as goal

pub returns-clause-value : goal.returns-clause-value
unfolding quadruplet_at
returns-clause-value c = cc
