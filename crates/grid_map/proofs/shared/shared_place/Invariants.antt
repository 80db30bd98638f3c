use Rattle.grid_map.proofs.Symbols.{IsAhead}
use Rattle.grid_map.proofs.shared.shared_place.Given as goal

abbrev pub invariant-loop-symbol : goal.invariant-loop-symbol
invariant-loop-symbol l = IsAhead l.carrier l.id l.assignment.cfi l.assignment.start l.assignment.blocks l.i l.symbol l.left
