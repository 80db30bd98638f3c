use Rattle.std.proofs.Common.{◌≡◌}
use Rattle.finite.specs.Lists.{values_below}
use Rattle.tones.specs.Tones.{cosine}
use Rattle.tones.proofs.table.Tones.new.Given as goal

abbrev pub invariant-loop-m : goal.invariant-loop-m
invariant-loop-m l = l.cosines.items ≡ values_below l.m cosine
