use Rattle.std.proofs.Common.{◌≡◌}
use Rattle.grid_map.proofs.Regions.{kept_below}
use Rattle.grid_map.proofs.control.pdcch.Given as goal

abbrev pub invariant-loop-n : goal.invariant-loop-n
invariant-loop-n l = l.groups.items ≡ kept_below l.pcfich l.phich.items l.last l.n
