use Rattle.grid_map.proofs.Regions.{phich_in-is}
use Rattle.grid_map.proofs.control.phich_in.Goals as goal

pub returns : goal.returns
returns c = let is = phich_in-is c.args.id c.args.symbol c.args.m c.args.i c.requires.symbol in cc
