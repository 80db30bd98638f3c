use Rattle.std.proofs.Common.{◌≡◌, fold, take}
use Rattle.frequency_offset.specs.Fractions.{fraction_of, greater}
use Rattle.frequency_offset.specs.Steps.{IsSmallHit}
use Rattle.frequency_offset.proofs.fraction.best_of.Given as goal

abbrev pub invariant-loop-hit : goal.invariant-loop-hit
invariant-loop-hit l = record { is : l.best ≡ fold (greater fraction_of) l.first (take l.hit-index l.rest); small : IsSmallHit l.best }
