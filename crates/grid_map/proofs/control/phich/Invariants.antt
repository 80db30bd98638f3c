use Rattle.grid_map.proofs.Regions.{ArePhich}
use Rattle.grid_map.proofs.control.phich.Given as goal

abbrev pub invariant-loop-m : goal.invariant-loop-m
invariant-loop-m l = ArePhich l.id l.duration l.m l.groups.items
